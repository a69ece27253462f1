use Rattle.span.specs.Held.{listed}
use Rattle.span.proofs.Order.{ascending}
use Rattle.span.proofs.spans.Spans.as_slice.Goals as goal

pub returns-clause-rule : goal.returns-clause-rule
returns-clause-rule c = rw (← c.self.view_is) (ascending (listed c.self.inside) c.self.invariant.ascending)
