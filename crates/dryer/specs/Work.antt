-- One hour of the tower, by the cells of the bank once the readings are set. Assumes nothing.
use Rattle.std.specs.Prelude.{◌≡◌, ℕ, ◌+◌, List, Some, None, Ok, Err, Option, Result}
use Rattle.bus.specs.declared.cell.Kind.TheVariants.{Silent}
use Rattle.bus.specs.declared.refusal.Refusal.{Refusal}
use Rattle.bus.specs.Cell.{kind_of, written}
use Rattle.bus.specs.Contract.{Cells, read_answer}
use Rattle.probe.specs.declared.bank.ProbeBank.{ProbeBank}
use Rattle.probe.specs.Bank.{bank_cells}
use Rattle.dryer.specs.declared.control.Places.{Places}
use Rattle.dryer.specs.declared.plant.Hour.{Hour}
use Rattle.dryer.specs.declared.tally.Call.TheVariants.{Read, Write, Set}
use Rattle.dryer.specs.declared.tally.Tally.{Tally}
use Rattle.dryer.specs.declared.work.Worked.{Worked}
use Rattle.dryer.specs.Control.{commanded, controlled}
use Rattle.dryer.specs.Log.{note_answer, logged}
use Rattle.dryer.specs.Plant.{with_hour}
use Rattle.dryer.specs.Tally.{with_call}

-- where the probe bank lies, and what its first registers are
abbrev pub probes_at : ℕ
probes_at = 512

abbrev pub moisture_at : ℕ
moisture_at = probes_at

abbrev pub temperature_at : ℕ
temperature_at = probes_at + 1

abbrev pub valve_at : ℕ
valve_at = probes_at + 2

abbrev pub places : Places
places = record { moisture = moisture_at; temperature = temperature_at; valve = valve_at }

-- the temperature above which the valve is closed
abbrev pub max_temperature : Result ℕ Refusal
max_temperature = Ok 120

-- the cells that the control finds, once the host has set the readings
abbrev pub seen : Hour → ProbeBank → Cells
seen hour bank = bank_cells (with_hour hour bank)

-- what the valve is set to
abbrev pub valve_set : Cells → ℕ
valve_set = commanded places max_temperature

-- there is a call only where something was read
abbrev pub note_of : Result ℕ Refusal → Result (Unit {0}) Refusal → Option (Result (Unit {0}) Refusal)
note_of (Ok moisture) answer = Some answer
note_of (Err e) answer = None

abbrev pub worked : ℕ → Cells → List ℕ → Worked
worked number m log = record { readings = Ok tt; round = controlled places max_temperature m; noted = note_of (read_answer m moisture_at) (note_answer log number) }

abbrev pub log_with : Result ℕ Refusal → List ℕ → ℕ → List ℕ
log_with (Ok moisture) log number = logged log number moisture
log_with (Err e) log number = log

abbrev pub log_after : ℕ → Cells → List ℕ → List ℕ
log_after number m log = log_with (read_answer m moisture_at) log number

abbrev pub with_note : Option (Result (Unit {0}) Refusal) → Tally → Tally
with_note None t = t
with_note (Some answer) t = with_call Write answer t

-- every call of the hour counted
abbrev pub tally_after : Worked → Tally → Tally
tally_after w t = with_note w.noted (with_call Write w.round.valve (with_call Read w.round.temperature (with_call Read w.round.moisture (with_call Set w.readings t))))

-- where the moisture probe is silent, nothing is logged and the valve is closed, if its cell can be written at all
abbrev pub HoldsNoReading : Cells → Cells → List ℕ → List ℕ → Type 0
HoldsNoReading before after log log_now = kind_of (before moisture_at) ≡ Silent → (log_now ≡ log) × (after valve_at ≡ written 0 (before valve_at))
