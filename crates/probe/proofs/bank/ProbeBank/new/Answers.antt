use Rattle.std.proofs.Common.{rules}
use Rattle.probe.proofs.Banks.{new_cells}
use Rattle.probe.proofs.bank.ProbeBank.new.Goals as goal

pub returns-clause-cells : goal.returns-clause-cells
returns-clause-cells c = new_cells c.args.tag c.args.base (search rules)
