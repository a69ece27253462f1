-- Shift: the cells of a bus, each seen from another address. Assumes nothing.
use Rattle.std.specs.Prelude.{ℕ, ◌+◌, ◌%◌, cond, [], ◌∷◌, Ok, Err, Result, nat_lt}
use Rattle.bus.specs.declared.cell.Cell.TheVariants.{Silent}
use Rattle.bus.specs.declared.refusal.Refusal.{Refusal}
use Rattle.bus.specs.declared.refusal.Refusal.TheVariants.{OutOfRange}
use Rattle.bus.specs.Address.{space}
use Rattle.bus.specs.Contract.{Cells, Shape, plain, holding}
use Rattle.layers.specs.declared.shift.Shift.{Shift}

-- the test before a making
abbrev pub distance_answer : ℕ → Result (Unit {0}) Refusal
distance_answer distance = cond (nat_lt distance space) (Ok tt) (Err OutOfRange)

-- the address below at which the cell of address a lies; after the last address comes 0 again
abbrev pub target : ℕ → ℕ → ℕ
target distance a = (a + distance) % space

-- at each address the cell that lies a distance further on below; what is no address stays
abbrev pub shifted : ℕ → Cells → Cells
shifted distance below a = cond (nat_lt a space) (below (target distance a)) (below a)

-- the distance; every cell below is seen, so none is hidden
abbrev pub shifted_shape : ℕ → Shape → Shape
shifted_shape distance below = holding (distance ∷ []) (λ a. Silent 0) below plain

-- cells and shape of a shift, by what the cells and the shape below are
abbrev pub shift_cells : {B : Type 0} → (B → Cells) → Shift B → Cells
shift_cells belows s = shifted s.distance (belows s.below)

abbrev pub shift_shape : {B : Type 0} → (B → Shape) → Shift B → Shape
shift_shape below_shapes s = shifted_shape s.distance (below_shapes s.below)
