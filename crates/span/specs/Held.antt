-- How a list of spans is held: in a table of which the first places count. Assumes nothing.
use Rattle.std.specs.Prelude.{◌≡◌, ◌-◌, true, List, ◌++◌, length, take, replicate}
use Rattle.span.specs.declared.span.Span.{Span}
use Rattle.span.specs.declared.spans.Spans.TheInside.{Inside}
use Rattle.span.specs.Span.{unused, lawful}

-- the spans that count
abbrev pub listed : Inside → List Span
listed s = take s.count s.table

-- these spans, and after them unused places
abbrev pub held : List Span → Inside
held spans = record { table = spans ++ replicate (8 - length spans) unused; count = length spans }

-- they keep the rule, and every other place is unused
pub record Lawful (s : Inside) : Type 0 where
  pub ascending : lawful (listed s) ≡ true
  pub rest : held (listed s) ≡ s
