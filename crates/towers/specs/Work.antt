-- One hour of a tower: the control does a round, and the log keeps the moisture. Assumes nothing.
use Rattle.std.specs.Prelude.{◌≡◌, ℕ, true, false, None, Ok, Err, Result}
use Rattle.bus.specs.declared.cell.Kind.TheVariants.{Silent}
use Rattle.bus.specs.declared.refusal.Refusal.{Refusal}
use Rattle.bus.specs.Cell.{kind_of}
use Rattle.bus.specs.Contract.{Cells, read_answer, write_answer, put}
use Rattle.dryer.specs.declared.tally.Tally.{Tally}
use Rattle.towers.specs.declared.tower.Tower.{Tower}
use Rattle.towers.specs.declared.tower.Tower.TheVariants.{One, Two}
use Rattle.towers.specs.declared.work.HourAnswers.{HourAnswers}
use Rattle.towers.specs.declared.work.BothAnswers.{BothAnswers}
use Rattle.towers.specs.Tower.{moisture_at, valve_at, log_at, writes, own}
use Rattle.towers.specs.Control.{controlled, regulated}
use Rattle.dryer.specs.declared.tally.Call.TheVariants.{Read, Write}
use Rattle.dryer.specs.Tally.{with_call}
use Rattle.dryer.specs.Work.{note_of, with_note}

abbrev pub hour_answers : Tower → ℕ → Cells → HourAnswers
hour_answers t hour m = record { round = controlled t m; noted = note_of (read_answer m (moisture_at t)) (write_answer (regulated t m) (log_at t hour)) }

-- the cells with what was read put at a
abbrev pub put_read : Result ℕ Refusal → ℕ → Cells → Cells
put_read (Ok byte) a m = put m a byte
put_read (Err e) a m = m

-- the cells after the hour
abbrev pub after_hour : Tower → ℕ → Cells → Cells
after_hour t hour m = put_read (read_answer m (moisture_at t)) (log_at t hour) (regulated t m)

-- every call of the hour counted
abbrev pub counted : HourAnswers → Tally → Tally
counted w tally = with_note w.noted (with_call Write w.round.valve (with_call Read w.round.temperature (with_call Read w.round.moisture (with_call Read w.round.limit tally))))

-- each of two towers gets the answers that it would get alone on the bus, since neither writes a cell of the other
abbrev pub both_answers : ℕ → Cells → BothAnswers
both_answers hour m = record { one = hour_answers One hour m; two = hour_answers Two hour m }

-- what both leave, the second after the first
abbrev pub after_both : ℕ → Cells → Cells
after_both hour m = after_hour Two hour (after_hour One hour m)

-- each leaves its own cells as it would alone
abbrev pub EachAlone : ℕ → Cells → Cells → Type 0
EachAlone hour before after = (t : Tower) (a : ℕ) → own t hour a ≡ true → after a ≡ after_hour t hour before a

abbrev pub counted_both : BothAnswers → Tally → Tally
counted_both w tally = counted w.two (counted w.one tally)

-- where the moisture probe is silent, nothing is logged, and the hour closes the valve, if its cell can be written at all, and changes nothing else
abbrev pub HoldsNoReading : Tower → HourAnswers → Cells → Cells → Type 0
HoldsNoReading t w before after = kind_of (before (moisture_at t)) ≡ Silent → (w.noted ≡ None) × (after ≡ put before (valve_at t) 0)

-- What a tower does in an hour comes from its own cells, and it changes no others than those it writes:
-- on whatever bus has the same own cells, the tower gets the same answers and leaves its own cells the same.
pub record OwnCellsAlone (t : Tower) (hour : ℕ) (w : HourAnswers) (before after : Cells) : Type 0 where
  pub others : (a : ℕ) → writes t hour a ≡ false → after a ≡ before a
  pub answers : (m : Cells) → ((a : ℕ) → own t hour a ≡ true → m a ≡ before a) → hour_answers t hour m ≡ w
  pub leaves : (m : Cells) → ((a : ℕ) → own t hour a ≡ true → m a ≡ before a) → (a : ℕ) → own t hour a ≡ true → after_hour t hour m a ≡ after a
