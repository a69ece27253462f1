use Rattle.std.proofs.Common.{◌≡◌, drop}
use Rattle.span.specs.Span.{row_answer}
use Rattle.span.proofs.spans.check_all.Given as goal

abbrev pub invariant-loop-span : goal.invariant-loop-span
invariant-loop-span l = row_answer l.from (drop l.span-index l.spans) ≡ row_answer 0 l.spans
