use Rattle.std.proofs.Common.{rules}
use Rattle.probe.proofs.bank.ProbeBank.set.Goals as goal

pub returns-clause-ok : goal.returns-clause-ok
returns-clause-ok g c = (c.change.new.arg2, search rules, search rules)
