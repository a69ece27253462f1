use Rattle.std.proofs.Common.{rules}
use Rattle.probe.specs.Bank.{with_answering}
use Rattle.probe.proofs.Banks.{set_cells}
use Rattle.probe.proofs.bank.ProbeBank.set_answering.Goals as goal

pub returns-clause-cells : goal.returns-clause-cells
returns-clause-cells c = set_cells c.args.self.now c.args.number (with_answering c.args.answering) (search rules) (search rules)
