use Rattle.report.proofs.tower.WorkDisplay.fmt.Goals as goal

pub returns-clause-writes : goal.returns-clause-writes
returns-clause-writes g c = rw (c.read-moisture.ensures, c.read-temperature.ensures, c.write-valve.ensures) at c.write.ensures.writes
