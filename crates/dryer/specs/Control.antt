-- What the control of a dryer tower reads and sets. Assumes nothing.
use Rattle.std.specs.Prelude.{◌≡◌, ℕ, ◌*◌, min, false, cond, ◌⊎◌, is_ok, Ok, Err, Result, nat_lt}
use Rattle.bus.specs.declared.cell.Kind.TheVariants.{Silent}
use Rattle.bus.specs.declared.refusal.Refusal.{Refusal}
use Rattle.bus.specs.Cell.{kind_of}
use Rattle.bus.specs.Contract.{Cells, read_answer, write_answer, put}
use Rattle.dryer.specs.declared.control.Places.{Places}
use Rattle.dryer.specs.declared.control.Round.{Round}

-- The opening in percent, by what the readings of limit, moisture and temperature answered:
-- five for each percent of moisture and 100 at most; none above the limit, or where one was not read.
abbrev pub opening_for : Result ℕ Refusal → Result ℕ Refusal → Result ℕ Refusal → ℕ
opening_for (Ok limit) (Ok moisture) (Ok temperature) = cond (nat_lt limit temperature) 0 (min 100 (moisture * 5))
opening_for (Ok limit) (Ok moisture) (Err e) = 0
opening_for (Ok limit) (Err e) temperature = 0
opening_for (Err e) moisture temperature = 0

-- what the valve is set to
abbrev pub commanded : Places → Result ℕ Refusal → Cells → ℕ
commanded at limit m = opening_for limit (read_answer m at.moisture) (read_answer m at.temperature)

abbrev pub controlled : Places → Result ℕ Refusal → Cells → Round
controlled at limit m = record { limit = limit; moisture = read_answer m at.moisture; temperature = read_answer m at.temperature; opening = commanded at limit m; valve = write_answer m at.valve }

-- Where a probe is silent, or the limit was not read, the valve is closed, if its cell can be written at all, and nothing else changes: no last
-- reading is held.
pub record ClosesOnSilence (at : Places) (limit : Result ℕ Refusal) (before after : Cells) : Type 0 where
  pub silent : (a : ℕ) → (a ≡ at.moisture) ⊎ (a ≡ at.temperature) → kind_of (before a) ≡ Silent → after ≡ put before at.valve 0
  pub unread : is_ok limit ≡ false → after ≡ put before at.valve 0
