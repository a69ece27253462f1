use Rattle.std.proofs.Common.{refl, ap, ◌∙◌}
use Rattle.report.specs.Tower.{joined}
use Rattle.report.proofs.Lines.{lines_joined}
use Rattle.report.proofs.tower.Work.lines.Goals as goal

pub returns-clause-lines : goal.returns-clause-lines
returns-clause-lines g c = rw (c.read.ensures, c.read-2.ensures, c.write.ensures, c.log_line.ensures) refl

pub returns-clause-text : goal.returns-clause-text
returns-clause-text g c = ap joined (returns-clause-lines g c) ∙ lines_joined g.row.WIDTH c.args.self.now
