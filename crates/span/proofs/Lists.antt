-- Spans as they are held in a table of eight places.
use Rattle.std.proofs.Common.{◌≡◌, ◌-◌, true, List, ◌++◌, length, drop, replicate, sym, refl, ap, ◌∙◌, ap₂}
use Rattle.std.proofs.lemmas.List.{drop-replicate, take_at}
use Rattle.span.specs.declared.span.Span.{Span}
use Rattle.span.specs.declared.spans.Spans.TheInside.{Inside}
use Rattle.span.specs.Span.{unused, lawful}
use Rattle.span.specs.Held.{listed, held, Lawful}

listed_held : (spans : List Span) → listed (held spans) ≡ spans
listed_held spans = take_at spans (replicate (8 - length spans) unused) (length spans) refl

-- spans that keep the rule, copied to the front of an unused table
pub copied : (spans front : List Span) → front ≡ spans → lawful spans ≡ true → Lawful record { table = front ++ drop (length spans) (replicate 8 unused); count = length spans }
copied spans front e rule =
    let inside : List Span → Inside = λ table. record { table = table; count = length spans } in
    let same : inside (front ++ drop (length spans) (replicate 8 unused)) ≡ held spans = ap inside (ap₂ (λ (xs ys : List Span). xs ++ ys) e (drop-replicate (length spans) 8 unused)) in
    let all = ap listed same ∙ listed_held spans in
    record { ascending = ap lawful all ∙ rule; rest = ap held all ∙ sym same }
