use Rattle.std.proofs.Common.{rules}
use Rattle.probe.proofs.Banks.{stored_cells, stored_shape}
use Rattle.probe.proofs.bank.cells.ProbeBankBus.store.Goals as goal

pub returns-then-eq-clause-after : goal.returns-then-eq-clause-after
returns-then-eq-clause-after c = stored_cells c.args.self.now c.args.address.value c.in-Some.number c.args.byte (search rules) (search rules) (search rules) _ (search rules)

pub returns-then-eq-clause-kept : goal.returns-then-eq-clause-kept
returns-then-eq-clause-kept c = stored_shape c.args.self.now c.args.address.value c.in-Some.number c.args.byte (search rules) (search rules) (search rules) _ (search rules)
