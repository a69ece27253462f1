-- The bus of a board with two towers: its parts, its cells and its shape. Assumes nothing.
use Rattle.std.specs.Prelude.{ℕ, ◌-◌, List, [], Result}
use Rattle.std.specs.Borrow.{Bor, MutBor}
use Rattle.bus.specs.declared.refusal.Refusal.{Refusal}
use Rattle.bus.specs.Address.{space}
use Rattle.bus.specs.Refusal.{passed}
use Rattle.bus.specs.Contract.{Cells, Shape}
use Rattle.bus.specs.Extent.{fits}
use Rattle.storage.specs.declared.memory.Memory.{Memory}
use Rattle.storage.specs.declared.image.Image.{Image}
use Rattle.storage.specs.Memory.{memory_cells, memory_shape, open_from}
use Rattle.storage.specs.Image.{image_cells, image_shape, fixed_from}
use Rattle.probe.specs.declared.bank.ProbeBank.{ProbeBank}
use Rattle.probe.specs.Bank.{bank_cells, bank_shape, new_bank, silent_cells}
use Rattle.towers.specs.declared.tower.Tower.TheVariants.{One, Two}
use Rattle.towers.specs.Tower.{moisture_at, log_at, limit_at}
use Rattle.layers.specs.declared.join.Join.{Join}
use Rattle.layers.specs.declared.shift.Shift.{Shift}
use Rattle.layers.specs.declared.hush.Hush.{Hush}
use Rattle.layers.specs.Join.{joined, join_cells, join_shape}
use Rattle.layers.specs.Shift.{shifted, shift_cells, shift_shape}
use Rattle.layers.specs.Hush.{hush_cells, hush_shape}

abbrev pub Probes : Type 0
Probes = Join ProbeBank (Shift ProbeBank)

abbrev pub Storage : Type 0
Storage = Join Memory Image

abbrev pub BoardBus : Type 0
BoardBus = Hush (Join Probes Storage)

-- cells and shape of the board's parts, and of the board
abbrev pub probe_cells : Probes → Cells
probe_cells = join_cells bank_cells (shift_cells bank_cells)

abbrev pub probe_shape : Probes → Shape
probe_shape = join_shape bank_cells bank_shape (shift_cells bank_cells) (shift_shape bank_shape)

abbrev pub storage_cells : Storage → Cells
storage_cells = join_cells memory_cells image_cells

abbrev pub storage_shape : Storage → Shape
storage_shape = join_shape memory_cells memory_shape image_cells image_shape

abbrev pub part_cells : Join Probes Storage → Cells
part_cells = join_cells probe_cells storage_cells

abbrev pub board_cells : BoardBus → Cells
board_cells = hush_cells part_cells

abbrev pub board_shape : BoardBus → Shape
board_shape = hush_shape part_cells (join_shape probe_cells probe_shape storage_cells storage_shape)

-- the tags of memory, image, the two banks and the hush
abbrev pub memory_tag : ℕ
memory_tag = 1

abbrev pub image_tag : ℕ
image_tag = 2

abbrev pub first_tag : ℕ
first_tag = 7

abbrev pub second_tag : ℕ
second_tag = 8

abbrev pub hush_tag : ℕ
hush_tag = 9

-- both banks have their registers where the first tower sees its own; the second bank is seen from where the second tower does
abbrev pub second_distance : ℕ
second_distance = space - (moisture_at Two - moisture_at One)

-- where memory and image begin
abbrev pub memory_at : ℕ
memory_at = log_at One 0

abbrev pub image_at : ℕ
image_at = limit_at One

-- the test before a making: memory and image end below 16,777,216
abbrev pub board_fits : ℕ → ℕ → Result (Unit {0}) Refusal
board_fits memory image = passed (fits memory_at memory) (fits image_at image)

-- two banks that do not answer yet
abbrev pub new_probes : Probes
new_probes = record { boundary = moisture_at Two; low = new_bank first_tag (moisture_at One); high = record { distance = second_distance; below = new_bank second_tag (moisture_at One) } }

abbrev pub new_probe_cells : Cells
new_probe_cells = joined (moisture_at Two) (silent_cells first_tag) (shifted second_distance (silent_cells second_tag))

abbrev pub new_storage : MutBor (List ℕ) → Bor (List ℕ) → Storage
new_storage memory image = record { boundary = image_at; low = record { base = memory_at; tag = memory_tag; bytes = memory }; high = record { base = image_at; tag = image_tag; bytes = image } }

abbrev pub new_storage_cells : List ℕ → List ℕ → Cells
new_storage_cells memory image = joined image_at (open_from memory_tag memory_at memory) (fixed_from image_tag image_at image)

-- the probes below the memory, and no silent spans
abbrev pub new_board : MutBor (List ℕ) → Bor (List ℕ) → BoardBus
new_board memory image = record { tag = hush_tag; spans = []; below = record { boundary = memory_at; low = new_probes; high = new_storage memory image } }

abbrev pub new_board_cells : List ℕ → List ℕ → Cells
new_board_cells memory image = joined memory_at new_probe_cells (new_storage_cells memory image)
