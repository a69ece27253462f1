use Rattle.std.proofs.Common.{rules}
use Rattle.towers.specs.declared.work.HourAnswers.{HourAnswers}
use Rattle.towers.proofs.Silence.{no_reading}
use Rattle.towers.proofs.Own.{own_cells}
use Rattle.towers.proofs.work.work_hour.Goals as goal

pub returns-clause-safe : goal.returns-clause-safe
returns-clause-safe g c =
    let answer : HourAnswers = record { round = c.control-round.result; noted = c.note-noted.result } in
    no_reading c.args.tower c.args.hour (g.B.Bus.cells c.args.bus.now) (g.B.Bus.cells c.note-noted.new.bus) answer (search rules) (search rules)

pub returns-clause-alone : goal.returns-clause-alone
returns-clause-alone g c =
    let answer : HourAnswers = record { round = c.control-round.result; noted = c.note-noted.result } in
    own_cells c.args.tower c.args.hour (g.B.Bus.cells c.args.bus.now) (g.B.Bus.cells c.note-noted.new.bus) answer (search rules) (search rules)
