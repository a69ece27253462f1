-- Join: one bus below a boundary, another from it on. Assumes nothing.
use Rattle.std.specs.Prelude.{ℕ, cond, [], ◌∷◌, Ok, Err, Result, nat_le, nat_lt}
use Rattle.bus.specs.declared.refusal.Refusal.{Refusal}
use Rattle.bus.specs.declared.refusal.Refusal.TheVariants.{OutOfRange}
use Rattle.bus.specs.Address.{space}
use Rattle.bus.specs.Contract.{Cells, Shape, holding}
use Rattle.layers.specs.declared.join.Join.{Join}

-- the test before a making
abbrev pub boundary_answer : ℕ → Result (Unit {0}) Refusal
boundary_answer boundary = cond (nat_le boundary space) (Ok tt) (Err OutOfRange)

-- below the boundary the cells of the first, from it on those of the second
abbrev pub joined : ℕ → Cells → Cells → Cells
joined boundary low high a = cond (nat_lt a boundary) (low a) (high a)

-- the boundary, and the cells that do not count: below the boundary those of the second, from it on those of the first
abbrev pub joined_shape : ℕ → Cells → Cells → Shape → Shape → Shape
joined_shape boundary low high = holding (boundary ∷ []) (joined boundary high low)

-- cells and shape of a join, by what the cells and the shapes of the two are
abbrev pub join_cells : {L R : Type 0} → (L → Cells) → (R → Cells) → Join L R → Cells
join_cells lows highs j = joined j.boundary (lows j.low) (highs j.high)

abbrev pub join_shape : {L R : Type 0} → (L → Cells) → (L → Shape) → (R → Cells) → (R → Shape) → Join L R → Shape
join_shape lows low_shapes highs high_shapes j = joined_shape j.boundary (lows j.low) (highs j.high) (low_shapes j.low) (high_shapes j.high)
