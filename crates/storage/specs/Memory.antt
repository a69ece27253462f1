-- Memory: its cells, its shape, and its bytes as its lender has them. Assumes nothing.
use Rattle.std.specs.Prelude.{◌≡◌, ℕ, ◌+◌, List, [], ◌∷◌, map, length, slice_index}
use Rattle.std.specs.List.{range_with_len}
use Rattle.bus.specs.declared.cell.Cell.{Cell}
use Rattle.bus.specs.declared.cell.Cell.TheVariants.{Open}
use Rattle.bus.specs.Cell.{byte_of}
use Rattle.bus.specs.Contract.{Cells, Shape, plain, holding}
use Rattle.bus.specs.Extent.{stretch, left_out}
use Rattle.storage.specs.declared.memory.Memory.{Memory}

abbrev pub open_byte : List ℕ → ℕ → Cell
open_byte bytes i = Open (slice_index bytes i)

-- open cells over these bytes from the base on, silent ones with this tag everywhere else
abbrev pub open_from : ℕ → ℕ → List ℕ → Cells
open_from tag base bytes = stretch tag base (length bytes) (open_byte bytes)

abbrev pub memory_cells : Memory → Cells
memory_cells m = open_from m.tag m.base m.bytes.now

-- tag, base and length, where the bytes are lent from, and those bytes that have no address
abbrev pub memory_shape : Memory → Shape
memory_shape m = holding (m.tag ∷ m.base ∷ length m.bytes.now ∷ m.bytes.ghost_name ∷ []) (left_out m.base (open_byte m.bytes.now)) plain plain

-- cells and shape are all of a memory: another with the same has the same numbers, the same lender and the same bytes
abbrev pub MemoryDetermined : Type 0
MemoryDetermined = (m other : Memory) → memory_cells other ≡ memory_cells m → memory_shape other ≡ memory_shape m → (other.tag ≡ m.tag) × (other.base ≡ m.base) × (other.bytes.ghost_name ≡ m.bytes.ghost_name) × (other.bytes.now ≡ m.bytes.now)

-- the bytes of the first n cells from the base on
abbrev pub bytes_from : Cells → ℕ → ℕ → List ℕ
bytes_from cells base n = map (λ i. byte_of (cells (base + i))) (range_with_len 0 n)
