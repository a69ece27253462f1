-- One hour of a board: what the host sets, and what the towers then do. Assumes nothing.
use Rattle.std.specs.Prelude.{◌≡◌, ℕ, Bool, true, false, List, None, Ok}
use Rattle.std.specs.Borrow.{Bor, MutBor}
use Rattle.bus.specs.declared.cell.Kind.TheVariants.{Open}
use Rattle.bus.specs.Cell.{kind_of, written}
use Rattle.bus.specs.Contract.{Cells, read_answer}
use Rattle.probe.specs.declared.bank.ProbeBank.{ProbeBank}
use Rattle.span.specs.declared.span.Span.{Span}
use Rattle.span.specs.Span.{covered}
use Rattle.dryer.specs.declared.tally.Tally.{Tally}
use Rattle.towers.specs.declared.tower.Tower.{Tower}
use Rattle.towers.specs.declared.tower.Tower.TheVariants.{One, Two}
use Rattle.towers.specs.declared.work.HourAnswers.{HourAnswers}
use Rattle.dryer.specs.declared.tally.Call.TheVariants.{Set}
use Rattle.dryer.specs.Tally.{with_call}
use Rattle.towers.specs.Tower.{moisture_at, temperature_at, valve_at, own}
use Rattle.towers.specs.Work.{hour_answers, after_hour, both_answers, counted_both}
use Rattle.dryer_board.specs.declared.hour.Hour.{Hour}
use Rattle.dryer.specs.declared.plant.Readings.{Readings}
use Rattle.dryer_board.specs.declared.hour.BoardAnswers.{BoardAnswers}
use Rattle.dryer.specs.Plant.{in_service, with_readings}
use Rattle.dryer_board.specs.Board.{BoardBus, part_cells, board_cells, new_board}

-- a board with its two banks changed and these spans silent, everything else as it was
abbrev pub changed : (ProbeBank → ProbeBank) → (ProbeBank → ProbeBank) → List Span → BoardBus → BoardBus
changed one two spans b = record { tag = b.tag; spans = spans; below = record { boundary = b.below.boundary; low = record { boundary = b.below.low.boundary; low = one b.below.low.low; high = record { distance = b.below.low.high.distance; below = two b.below.low.high.below } }; high = b.below.high } }

abbrev pub with_service : BoardBus → BoardBus
with_service b = changed in_service in_service b.spans b

abbrev pub with_hour : Hour → BoardBus → BoardBus
with_hour hour b = changed (with_readings hour.one) (with_readings hour.two) hour.silent b

abbrev pub readings_of : Tower → Hour → Readings
readings_of One hour = hour.one
readings_of Two hour = hour.two

-- the cells that the towers find in an hour, and those that they would find if no span were silent
abbrev pub found : Hour → BoardBus → Cells
found hour b = board_cells (with_hour hour b)

abbrev pub unhushed : Hour → BoardBus → Cells
unhushed hour b = part_cells (with_hour hour b).below

abbrev pub silent_at : Hour → ℕ → Bool
silent_at hour a = covered hour.silent a

-- What the host sets reaches a tower: unless a span covers them, its probes read as set and its valve is open.
pub record ReadingsReach (t : Tower) (hour : Hour) (b : BoardBus) : Type 0 where
  pub moisture : silent_at hour (moisture_at t) ≡ false → read_answer (found hour b) (moisture_at t) ≡ Ok (readings_of t hour).moisture
  pub temperature : silent_at hour (temperature_at t) ≡ false → read_answer (found hour b) (temperature_at t) ≡ Ok (readings_of t hour).temperature
  pub valve : silent_at hour (valve_at t) ≡ false → kind_of (found hour b (valve_at t)) ≡ Open

-- it does so on a new board that was set up, whatever the memory and the image are
abbrev pub ReachesTowers : BoardBus → BoardBus → Type 0
ReachesTowers before after = (memory : MutBor (List ℕ)) (image : Bor (List ℕ)) → before ≡ new_board memory image → (t : Tower) (hour : Hour) → ReadingsReach t hour after

abbrev pub board_answers : ℕ → Cells → BoardAnswers
board_answers number m = record { set = Ok tt; towers = both_answers number m }

-- every call counted: the setting, and those of the towers
abbrev pub counted_all : BoardAnswers → Tally → Tally
counted_all p tally = counted_both p.towers (with_call Set p.set tally)

-- What silent spans mean to a tower. If none of its own cells lies in one, it gets the answers and leaves its own cells as it would without spans.
-- If its moisture probe does, it logs nothing and its valve is closed, if that cell can be written at all.
pub record Silence (t : Tower) (number : ℕ) (hour : Hour) (before : BoardBus) (w : HourAnswers) (after : Cells) : Type 0 where
  pub outside : ((a : ℕ) → own t number a ≡ true → silent_at hour a ≡ false) → (w ≡ hour_answers t number (unhushed hour before)) × ((a : ℕ) → own t number a ≡ true → after a ≡ after_hour t number (unhushed hour before) a)
  pub inside : silent_at hour (moisture_at t) ≡ true → (w.noted ≡ None) × (after (valve_at t) ≡ written 0 (found hour before (valve_at t)))
