-- The test of spans passes exactly those in ascending order.
use Rattle.std.proofs.Common.{◌≡◌, ℕ, zero, suc, ◌+◌, ◌<◌, ◌≤◌, Bool, true, List, [], ◌∷◌, length, Ok, sym, refl, ◌∙◌, arith}
use Rattle.std.proofs.lemmas.Bool.Decides.{nat_tests}
use Rattle.bus.specs.Address.{space}
use Rattle.span.specs.declared.span.Span.{Span}
use Rattle.span.specs.Span.{span_at, row_answer, lawful, Ascending}

-- what the test of a row found out of its first span, and of the others
record Passed (from : ℕ) (s : Span) (rest : List Span) : Type 0 where
  begins : from ≤ s.first
  forward : s.first ≤ s.last
  inside : s.last < space
  others : row_answer (s.last + 1) rest ≡ Ok tt

first : (from : ℕ) (s : Span) (rest : List Span) → row_answer from (s ∷ rest) ≡ Ok tt → Passed from s rest
first from s rest e = record { begins = grind (arith, nat_tests); forward = grind (arith, nat_tests); inside = grind (arith, nat_tests); others = grind (arith, nat_tests) }

each_begins : (from : ℕ) (spans : List Span) → row_answer from spans ≡ Ok tt → (i : ℕ) → i < length spans → from ≤ (span_at spans i).first
each_begins from [] e i h = omega arith
each_begins from (s ∷ rest) e zero h = (first from s rest e).begins
each_begins from (s ∷ rest) e (suc i) h =
    let p = first from s rest e in
    omega (arith, each_begins (s.last + 1) rest p.others i (omega arith))

each_forward : (from : ℕ) (spans : List Span) → row_answer from spans ≡ Ok tt → (i : ℕ) → i < length spans → (span_at spans i).first ≤ (span_at spans i).last
each_forward from [] e i h = omega arith
each_forward from (s ∷ rest) e zero h = (first from s rest e).forward
each_forward from (s ∷ rest) e (suc i) h = each_forward (s.last + 1) rest (first from s rest e).others i (omega arith)

each_inside : (from : ℕ) (spans : List Span) → row_answer from spans ≡ Ok tt → (i : ℕ) → i < length spans → (span_at spans i).last < space
each_inside from [] e i h = omega arith
each_inside from (s ∷ rest) e zero h = (first from s rest e).inside
each_inside from (s ∷ rest) e (suc i) h = each_inside (s.last + 1) rest (first from s rest e).others i (omega arith)

each_apart : (from : ℕ) (spans : List Span) → row_answer from spans ≡ Ok tt → (i j : ℕ) → i < j → j < length spans → (span_at spans i).last < (span_at spans j).first
each_apart from [] e i j h k = omega arith
each_apart from (s ∷ rest) e i zero h k = omega arith
each_apart from (s ∷ rest) e zero (suc j) h k = omega (arith, each_begins (s.last + 1) rest (first from s rest e).others j (omega arith))
each_apart from (s ∷ rest) e (suc i) (suc j) h k = each_apart (s.last + 1) rest (first from s rest e).others i j (omega arith) (omega arith)

row_passes : (from : ℕ) (spans : List Span) → ((i : ℕ) → i < length spans → from ≤ (span_at spans i).first) → ((i : ℕ) → i < length spans → (span_at spans i).first ≤ (span_at spans i).last) → ((i : ℕ) → i < length spans → (span_at spans i).last < space) → ((i j : ℕ) → i < j → j < length spans → (span_at spans i).last < (span_at spans j).first) → row_answer from spans ≡ Ok tt
row_passes from [] begins forward inside apart = refl
row_passes from (s ∷ rest) begins forward inside apart =
    let b : from ≤ s.first = begins 0 (omega arith) in
    let f : s.first ≤ s.last = forward 0 (omega arith) in
    let n : s.last < space = inside 0 (omega arith) in
    let others = row_passes (s.last + 1) rest (λ i h. omega (arith, apart 0 (suc i) (omega arith) (omega arith))) (λ i h. forward (suc i) (omega arith)) (λ i h. inside (suc i) (omega arith)) (λ i j h k. apart (suc i) (suc j) (omega arith) (omega arith)) in
    grind (arith, nat_tests)

pub ascending : (spans : List Span) → lawful spans ≡ true → Ascending spans
ascending spans e =
    let row : row_answer 0 spans ≡ Ok tt = grind (arith, nat_tests) in
    record { few = grind (arith, nat_tests); forward = each_forward 0 spans row; inside = each_inside 0 spans row; apart = each_apart 0 spans row }

passes : (spans : List Span) → Ascending spans → lawful spans ≡ true
passes spans a =
    let few = a.few in
    let row = row_passes 0 spans (λ i h. omega arith) a.forward a.inside a.apart in
    grind (arith, nat_tests)

-- whether an answer is Ok, if that is whether the test passes
pub exactly : (spans : List Span) (ok : Bool) → ok ≡ lawful spans → (ok ≡ true → Ascending spans) × (Ascending spans → ok ≡ true)
exactly spans ok e = (λ done. ascending spans (sym e ∙ done), λ a. e ∙ passes spans a)
