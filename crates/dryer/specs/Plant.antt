-- What the host sets in a tower's probe bank. Assumes nothing.
use Rattle.std.specs.Prelude.{true}
use Rattle.probe.specs.declared.bank.ProbeBank.{ProbeBank}
use Rattle.probe.specs.declared.bank.Direction.TheVariants.{Output}
use Rattle.probe.specs.Bank.{with_register, with_direction, with_answering, with_byte}
use Rattle.dryer.specs.declared.plant.Readings.{Readings}
use Rattle.dryer.specs.declared.plant.Hour.{Hour}

-- register 0 is the moisture, 1 the temperature, 2 the valve
abbrev pub in_service : ProbeBank → ProbeBank
in_service bank = with_register 2 (with_answering true) (with_register 2 (with_direction Output) (with_register 1 (with_answering true) (with_register 0 (with_answering true) bank)))

abbrev pub with_readings : Readings → ProbeBank → ProbeBank
with_readings r bank = with_register 1 (with_byte r.temperature) (with_register 0 (with_byte r.moisture) bank)

abbrev pub with_hour : Hour → ProbeBank → ProbeBank
with_hour hour bank = with_register 0 (with_answering hour.moisture_answers) (with_readings hour.readings bank)
