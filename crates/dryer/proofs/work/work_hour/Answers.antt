use Rattle.std.proofs.Common.{rules}
use Rattle.probe.specs.Bank.{bank_cells}
use Rattle.dryer.specs.Work.{seen}
use Rattle.dryer.proofs.Silence.{no_reading}
use Rattle.dryer.proofs.work.work_hour.Goals as goal

pub returns-in-Ok-clause-safe : goal.returns-in-Ok-clause-safe
returns-in-Ok-clause-safe c = no_reading c.args.number (seen c.args.hour c.args.probes.now) (bank_cells c.control-round.new.bus) c.args.log.now c.note-answer.new.log (search rules) (search rules)

pub returns-in-Err-clause-safe : goal.returns-in-Err-clause-safe
returns-in-Err-clause-safe c = no_reading c.args.number (seen c.args.hour c.args.probes.now) (bank_cells c.control-round.new.bus) c.args.log.now c.args.log.now (search rules) (search rules)
