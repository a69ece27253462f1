use Rattle.std.proofs.Common.{true, is_ok, rules}
use Rattle.span.proofs.Lists.{copied}
use Rattle.span.proofs.Order.{exactly}
use Rattle.span.proofs.spans.Spans.check.Goals as goal

pub returns-in_err-check_all-clause-rule : goal.returns-in_err-check_all-clause-rule
returns-in_err-check_all-clause-rule c = exactly c.args.spans.now (is_ok c.from_residual.result) (search rules)

pub invariant_of-result : goal.invariant_of-result
invariant_of-result c = copied c.args.spans.now c.copy_from_slice.new.self c.copy_from_slice.ensures.after (search rules)

pub returns-clause-rule : goal.returns-clause-rule
returns-clause-rule c = exactly c.args.spans.now true (search rules)
