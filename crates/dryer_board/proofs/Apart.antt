-- Silent spans that cover none of a tower's own cells change nothing for it.
use Rattle.std.proofs.Common.{◌≡◌, ℕ, true, false, None, refl, ap, ◌∙◌, arith}
use Rattle.std.proofs.lemmas.Bool.Decides.{nat_tests}
use Rattle.bus.specs.declared.cell.Kind.TheVariants.{Silent}
use Rattle.bus.specs.Cell.{kind_of, written}
use Rattle.bus.specs.Contract.{Cells, put}
use Rattle.towers.specs.declared.tower.Tower.{Tower}
use Rattle.towers.specs.declared.tower.Tower.TheVariants.{One, Two}
use Rattle.towers.specs.declared.work.HourAnswers.{HourAnswers}
use Rattle.towers.specs.Tower.{moisture_at, valve_at, own}
use Rattle.towers.specs.Work.{hour_answers, after_hour, EachAlone}
use Rattle.towers.proofs.Own.{same_answers, same_after}
use Rattle.towers.proofs.Silence.{no_reading}
use Rattle.dryer_board.specs.declared.hour.Hour.{Hour}
use Rattle.dryer_board.specs.Board.{BoardBus}
use Rattle.dryer_board.specs.Hour.{found, unhushed, silent_at, Silence}

pub uncovered : (hour : Hour) (board : BoardBus) (a : ℕ) → silent_at hour a ≡ false → found hour board a ≡ unhushed hour board a
uncovered hour board a free = grind (arith, nat_tests)

silenced : (hour : Hour) (board : BoardBus) (a : ℕ) → silent_at hour a ≡ true → kind_of (found hour board a) ≡ Silent
silenced hour board a covers = grind (arith, nat_tests)

put_valve : (t : Tower) (m : Cells) → put m (valve_at t) 0 (valve_at t) ≡ written 0 (m (valve_at t))
put_valve One m = grind (arith, nat_tests)
put_valve Two m = grind (arith, nat_tests)

own_valve : (t : Tower) (number : ℕ) → own t number (valve_at t) ≡ true
own_valve t number = grind (arith, nat_tests)

closed : (t : Tower) (number : ℕ) (m : Cells) → kind_of (m (moisture_at t)) ≡ Silent → after_hour t number m (valve_at t) ≡ written 0 (m (valve_at t))
closed t number m silent =
    let h = no_reading t number m (after_hour t number m) (hour_answers t number m) refl refl silent in
    ap (λ (after : Cells). after (valve_at t)) h.1 ∙ put_valve t m

not_noted : (t : Tower) (number : ℕ) (m : Cells) → kind_of (m (moisture_at t)) ≡ Silent → (hour_answers t number m).noted ≡ None
not_noted t number m silent = (no_reading t number m (after_hour t number m) (hour_answers t number m) refl refl silent).0

-- m: the cells once the hour is set, from which the towers worked
pub silence : (t : Tower) (number : ℕ) (hour : Hour) (board : BoardBus) (w : HourAnswers) (m after : Cells) → m ≡ found hour board → w ≡ hour_answers t number m → EachAlone number m after → Silence t number hour board w after
silence t number hour board w m after set heard alone =
    record {
      outside = λ free.
          let same : (a : ℕ) → own t number a ≡ true → m a ≡ unhushed hour board a = λ a mine. ap (λ (f : Cells). f a) set ∙ uncovered hour board a (free a mine) in
          (heard ∙ same_answers t number m (unhushed hour board) same, λ a mine. alone t a mine ∙ same_after t number m (unhushed hour board) same a mine);
      inside = λ covers.
          let here : (a : ℕ) → m a ≡ found hour board a = λ a. ap (λ (f : Cells). f a) set in
          let silent : kind_of (m (moisture_at t)) ≡ Silent = ap kind_of (here (moisture_at t)) ∙ silenced hour board (moisture_at t) covers in
          (ap (λ (x : HourAnswers). x.noted) heard ∙ not_noted t number m silent, alone t (valve_at t) (own_valve t number) ∙ closed t number m silent ∙ ap (written 0) (here (valve_at t)));
    }
