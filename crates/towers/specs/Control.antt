-- What the control of a tower reads and sets. Assumes nothing.
use Rattle.std.specs.Prelude.{◌≡◌, ℕ, true}
use Rattle.bus.specs.declared.cell.Kind.TheVariants.{Silent}
use Rattle.bus.specs.Cell.{kind_of}
use Rattle.bus.specs.Contract.{Cells, read_answer, put}
use Rattle.dryer.specs.declared.control.Round.{Round}
use Rattle.dryer.specs.Control as dryer
use Rattle.towers.specs.declared.tower.Tower.{Tower}
use Rattle.towers.specs.Tower.{limit_at, valve_at, places, reads}

-- what the valve is set to
abbrev pub commanded : Tower → Cells → ℕ
commanded t m = dryer.commanded (places t) (read_answer m (limit_at t)) m

-- what a round answers, and the cells after it
abbrev pub controlled : Tower → Cells → Round
controlled t m = dryer.controlled (places t) (read_answer m (limit_at t)) m

abbrev pub regulated : Tower → Cells → Cells
regulated t m = put m (valve_at t) (commanded t m)

-- where a cell that the tower reads is silent, the valve is closed, if its cell can be written at all: no last reading is held
abbrev pub ClosesOnSilence : Tower → Cells → Cells → Type 0
ClosesOnSilence t before after = (a : ℕ) → reads t a ≡ true → kind_of (before a) ≡ Silent → after ≡ put before (valve_at t) 0
