-- An hour in which the moisture probe is silent holds no reading.
use Rattle.std.proofs.Common.{◌≡◌, ℕ, List, ap, ◌∙◌, arith}
use Rattle.std.proofs.lemmas.Bool.Decides.{nat_tests}
use Rattle.bus.specs.declared.cell.Kind.TheVariants.{Silent}
use Rattle.bus.specs.Cell.{kind_of, written}
use Rattle.bus.specs.Contract.{Cells, put}
use Rattle.dryer.specs.Work.{moisture_at, valve_at, valve_set, log_after, HoldsNoReading}

log_stays : (number : ℕ) (m : Cells) (log : List ℕ) → kind_of (m moisture_at) ≡ Silent → log_after number m log ≡ log
log_stays number m log silent = grind (arith, nat_tests)

valve_closes : (m : Cells) → kind_of (m moisture_at) ≡ Silent → put m valve_at (valve_set m) valve_at ≡ written 0 (m valve_at)
valve_closes m silent = grind (arith, nat_tests)

pub no_reading : (number : ℕ) (m after : Cells) (log log_now : List ℕ) → after ≡ put m valve_at (valve_set m) → log_now ≡ log_after number m log → HoldsNoReading m after log log_now
no_reading number m after log log_now cells kept silent = (kept ∙ log_stays number m log silent, ap (λ (f : Cells). f valve_at) cells ∙ valve_closes m silent)
