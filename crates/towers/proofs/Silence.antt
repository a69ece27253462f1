-- A tower holds no reading: where something is not read, the valve is closed.
use Rattle.std.proofs.Common.{◌≡◌, ℕ, true, false, is_ok, Ok, Err, Result, refl, ap, ◌∙◌, arith}
use Rattle.std.proofs.lemmas.Bool.Decides.{nat_tests}
use Rattle.bus.specs.declared.cell.Kind.TheVariants.{Silent}
use Rattle.bus.specs.declared.refusal.Refusal.{Refusal}
use Rattle.bus.specs.Cell.{kind_of}
use Rattle.bus.specs.Contract.{Cells, read_answer, put}
use Rattle.towers.specs.declared.tower.Tower.{Tower}
use Rattle.towers.specs.declared.work.HourAnswers.{HourAnswers}
use Rattle.towers.specs.Tower.{moisture_at, valve_at, log_at, reads}
use Rattle.towers.specs.Control.{commanded, regulated}
use Rattle.towers.specs.Work.{hour_answers, after_hour, put_read, HoldsNoReading}

unread : (m : Cells) (a : ℕ) → kind_of (m a) ≡ Silent → is_ok (read_answer m a) ≡ false
unread m a silent = grind (arith, nat_tests)

closed : (t : Tower) (m : Cells) (a : ℕ) → reads t a ≡ true → kind_of (m a) ≡ Silent → commanded t m ≡ 0
closed t m a reading silent =
    let no = unread m a silent in
    grind (arith, nat_tests)

nothing_put : (r : Result ℕ Refusal) (a : ℕ) (m : Cells) → is_ok r ≡ false → put_read r a m ≡ m
nothing_put (Ok b) a m e = cc
nothing_put (Err x) a m e = refl

pub no_reading : (t : Tower) (hour : ℕ) (m after : Cells) (w : HourAnswers) → w ≡ hour_answers t hour m → after ≡ after_hour t hour m → HoldsNoReading t w m after
no_reading t hour m after w answer cells silent =
    let no = unread m (moisture_at t) silent in
    let command = closed t m (moisture_at t) (grind (arith, nat_tests)) silent in
    (ap (λ (x : HourAnswers). x.noted) answer ∙ grind (arith, nat_tests), cells ∙ nothing_put (read_answer m (moisture_at t)) (log_at t hour) (regulated t m) no ∙ ap (put m (valve_at t)) command)
