-- Image: its cells and its shape. Assumes nothing.
use Rattle.std.specs.Prelude.{◌≡◌, ℕ, List, [], ◌∷◌, length, slice_index}
use Rattle.bus.specs.declared.cell.Cell.{Cell}
use Rattle.bus.specs.declared.cell.Cell.TheVariants.{Fixed}
use Rattle.bus.specs.Contract.{Cells, Shape, plain, holding}
use Rattle.bus.specs.Extent.{stretch, left_out}
use Rattle.storage.specs.declared.image.Image.{Image}

abbrev pub fixed_byte : ℕ → List ℕ → ℕ → Cell
fixed_byte tag bytes i = Fixed (slice_index bytes i) tag

-- fixed cells over these bytes from the base on, silent ones everywhere else, all with this tag
abbrev pub fixed_from : ℕ → ℕ → List ℕ → Cells
fixed_from tag base bytes = stretch tag base (length bytes) (fixed_byte tag bytes)

abbrev pub image_cells : Image → Cells
image_cells m = fixed_from m.tag m.base m.bytes.now

-- tag, base and length, and those bytes that have no address
abbrev pub image_shape : Image → Shape
image_shape m = holding (m.tag ∷ m.base ∷ length m.bytes.now ∷ []) (left_out m.base (fixed_byte m.tag m.bytes.now)) plain plain

-- cells and shape are all of an image: another with the same has the same numbers and the same bytes
abbrev pub ImageDetermined : Type 0
ImageDetermined = (m other : Image) → image_cells other ≡ image_cells m → image_shape other ≡ image_shape m → (other.tag ≡ m.tag) × (other.base ≡ m.base) × (other.bytes.now ≡ m.bytes.now)
