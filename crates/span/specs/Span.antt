-- Spans of addresses, their rule, and the test of it. Assumes nothing.
use Rattle.std.specs.Prelude.{◌≡◌, ℕ, ◌+◌, ◌<◌, ◌≤◌, Bool, true, cond, ◌&&◌, List, [], ◌∷◌, length, is_ok, Ok, Err, Result, nat_le, slice_index_or}
use Rattle.std.specs.List.{list_any}
use Rattle.bus.specs.declared.refusal.Refusal.{Refusal}
use Rattle.bus.specs.declared.refusal.Refusal.TheVariants.{WindowsOrSpans}
use Rattle.bus.specs.Address.{space, in_space}
use Rattle.bus.specs.Refusal.{passed}
use Rattle.span.specs.declared.span.Span.{Span}

abbrev pub unused : Span
unused = record { first = 0; last = 0 }

abbrev pub span_at : List Span → ℕ → Span
span_at spans i = slice_index_or spans i unused

-- the address lies in the span
abbrev pub holds : Span → ℕ → Bool
holds s a = nat_le s.first a && nat_le a s.last

-- it lies in one of the spans
abbrev pub covered : List Span → ℕ → Bool
covered spans a = list_any (λ s. holds s a) spans

-- the test of a span that may begin at `from` at the earliest: first its numbers, then their order
abbrev pub span_answer : ℕ → Span → Result (Unit {0}) Refusal
span_answer from s = in_space s.first (in_space s.last (cond (nat_le from s.first && nat_le s.first s.last) (Ok tt) (Err WindowsOrSpans)))

-- the test of spans in turn, each after the one before it
abbrev pub row_answer : ℕ → List Span → Result (Unit {0}) Refusal
row_answer from [] = Ok tt
row_answer from (s ∷ rest) = passed (span_answer from s) (row_answer (s.last + 1) rest)

-- the test of a list of spans: at most eight of them, then each in turn
abbrev pub spans_answer : List Span → Result (Unit {0}) Refusal
spans_answer spans = cond (nat_le (length spans) 8) (row_answer 0 spans) (Err WindowsOrSpans)

-- The rule of spans: at most eight; each has its first address at most its last, and both in the address space; each ends before any later one begins.
pub record Ascending (spans : List Span) : Type 0 where
  pub few : length spans ≤ 8
  pub forward : (i : ℕ) → i < length spans → (span_at spans i).first ≤ (span_at spans i).last
  pub inside : (i : ℕ) → i < length spans → (span_at spans i).last < space
  pub apart : (i j : ℕ) → i < j → j < length spans → (span_at spans i).last < (span_at spans j).first

-- an answer is Ok where this holds, and only there
abbrev pub OkExactly : {A : Type 0} → Result A Refusal → Type 0 → Type 0
OkExactly r P = (is_ok r ≡ true → P) × (P → is_ok r ≡ true)

-- the rule as a test
abbrev pub lawful : List Span → Bool
lawful spans = is_ok (spans_answer spans)
