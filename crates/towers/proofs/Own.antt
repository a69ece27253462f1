-- A tower reads and changes its own cells alone.
use Rattle.std.proofs.Common.{◌≡◌, ℕ, ◌<◌, true, false, sym, ap, ◌∙◌, arith}
use Rattle.std.proofs.lemmas.Bool.Decides.{nat_tests}
use Rattle.bus.specs.Contract.{Cells, read_answer}
use Rattle.towers.specs.declared.tower.Tower.{Tower}
use Rattle.towers.specs.declared.tower.Tower.TheVariants.{One, Two}
use Rattle.towers.specs.declared.work.HourAnswers.{HourAnswers}
use Rattle.towers.specs.Tower.{limit_at, moisture_at, temperature_at, valve_at, log_at, writes, own}
use Rattle.towers.specs.Control.{commanded}
use Rattle.towers.specs.Work.{hour_answers, after_hour, OwnCellsAlone, after_both, EachAlone}

-- the cells of a tower, the same on two buses
record SameOwn (t : Tower) (hour : ℕ) (m n : Cells) : Type 0 where
  limit : m (limit_at t) ≡ n (limit_at t)
  moisture : m (moisture_at t) ≡ n (moisture_at t)
  temperature : m (temperature_at t) ≡ n (temperature_at t)
  valve : m (valve_at t) ≡ n (valve_at t)
  log : m (log_at t hour) ≡ n (log_at t hour)

same_own : (t : Tower) (hour : ℕ) (m n : Cells) → ((a : ℕ) → own t hour a ≡ true → m a ≡ n a) → SameOwn t hour m n
same_own t hour m n same =
    record {
      limit = same (limit_at t) (grind (arith, nat_tests));
      moisture = same (moisture_at t) (grind (arith, nat_tests));
      temperature = same (temperature_at t) (grind (arith, nat_tests));
      valve = same (valve_at t) (grind (arith, nat_tests));
      log = same (log_at t hour) (grind (arith, nat_tests));
    }

same_command : (t : Tower) (hour : ℕ) (m n : Cells) → SameOwn t hour m n → commanded t m ≡ commanded t n
same_command t hour m n s = cc

answers_of : (t : Tower) (hour : ℕ) (m n : Cells) → SameOwn t hour m n → hour_answers t hour m ≡ hour_answers t hour n
answers_of t hour m n s = cc

pub same_answers : (t : Tower) (hour : ℕ) (m n : Cells) → ((a : ℕ) → own t hour a ≡ true → m a ≡ n a) → hour_answers t hour m ≡ hour_answers t hour n
same_answers t hour m n same = answers_of t hour m n (same_own t hour m n same)

same_cell_after : (t : Tower) (hour : ℕ) (m n : Cells) → SameOwn t hour m n → (a : ℕ) → m a ≡ n a → after_hour t hour m a ≡ after_hour t hour n a
same_cell_after t hour m n s a here = let command = same_command t hour m n s in let reading : read_answer m (moisture_at t) ≡ read_answer n (moisture_at t) = cc in grind (arith, nat_tests)

pub same_after : (t : Tower) (hour : ℕ) (m n : Cells) → ((a : ℕ) → own t hour a ≡ true → m a ≡ n a) → (a : ℕ) → own t hour a ≡ true → after_hour t hour m a ≡ after_hour t hour n a
same_after t hour m n same a mine = same_cell_after t hour m n (same_own t hour m n same) a (same a mine)

-- a cell that the tower does not write
pub not_written : (t : Tower) (hour : ℕ) (m : Cells) (a : ℕ) → writes t hour a ≡ false → after_hour t hour m a ≡ m a
not_written t hour m a free = grind (arith, nat_tests)

-- the towers write none of each other's cells
pub after_one : (hour : ℕ) → hour < 256 → (m : Cells) (a : ℕ) → own Two hour a ≡ true → after_hour One hour m a ≡ m a
after_one hour h m a mine = not_written One hour m a (grind (arith, nat_tests))

pub after_two : (hour : ℕ) → hour < 256 → (m : Cells) (a : ℕ) → own One hour a ≡ true → after_hour Two hour m a ≡ m a
after_two hour h m a mine = not_written Two hour m a (grind (arith, nat_tests))

-- so the second gets the answers that it would get without the first
pub second_alone : (hour : ℕ) → hour < 256 → (m after : Cells) (w : HourAnswers) → after ≡ after_hour One hour m → w ≡ hour_answers Two hour after → w ≡ hour_answers Two hour m
second_alone hour h m after w cells heard = heard ∙ ap (hour_answers Two hour) cells ∙ same_answers Two hour (after_hour One hour m) m (after_one hour h m)

pub both_alone : (hour : ℕ) → hour < 256 → (m : Cells) → EachAlone hour m (after_both hour m)
both_alone hour h m One a mine = after_two hour h (after_hour One hour m) a mine
both_alone hour h m Two a mine = same_after Two hour (after_hour One hour m) m (after_one hour h m) a mine

pub own_cells : (t : Tower) (hour : ℕ) (m after : Cells) (w : HourAnswers) → w ≡ hour_answers t hour m → after ≡ after_hour t hour m → OwnCellsAlone t hour w m after
own_cells t hour m after w answer cells =
    let at : (a : ℕ) → after a ≡ after_hour t hour m a = λ a. ap (λ (f : Cells). f a) cells in
    record {
      others = λ a free. at a ∙ not_written t hour m a free;
      answers = λ n same. same_answers t hour n m same ∙ sym answer;
      leaves = λ n same a mine. same_after t hour n m same a mine ∙ sym (at a);
    }
