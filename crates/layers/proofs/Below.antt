-- The cells below a layer, from its cells and its hidden cells.
use Rattle.std.proofs.Common.{◌≡◌, ℕ, ◌+◌, ◌-◌, ◌%◌, ◌<◌, Bool, true, false, cond, ltb, List, [], ◌∷◌, refl, ap, ◌∙◌, ap₂, arith}
use mathlib.Core.Path.{fun_ext}
use Rattle.std.proofs.lemmas.Bool.{cases_eq}
use Rattle.std.proofs.lemmas.Bool.Decides.{nat_tests}
use Rattle.bus.specs.Address.{space}
use Rattle.bus.specs.Contract.{Cells, put}
use Rattle.span.specs.declared.span.Span.{Span}
use Rattle.span.specs.Span.{covered}
use Rattle.layers.specs.Join.{joined}
use Rattle.layers.specs.Shift.{target, shifted}
use Rattle.layers.specs.Hush.{hushed, hidden, numbers}
use Rattle.layers.specs.Below.{JoinReaches, ShiftReaches, HushReaches, WriteReaches, JoinDetermined, HushDetermined, LayersDetermined}

-- the two of a join, from the cells that count and those that do not
low_of : (boundary : ℕ) (low high : Cells) → low ≡ joined boundary (joined boundary low high) (joined boundary high low)
low_of boundary low high = fun_ext (λ a. grind (arith, nat_tests))

high_of : (boundary : ℕ) (low high : Cells) → high ≡ joined boundary (joined boundary high low) (joined boundary low high)
high_of boundary low high = fun_ext (λ a. grind (arith, nat_tests))

-- the address at which a shift shows the cell that lies at a
back : ℕ → ℕ → ℕ
back d a = (a + (space - d % space)) % space

target_back : (d a : ℕ) → a < space → target d (back d a) ≡ a
unfolding back
target_back d a h = omega arith

back_target : (d a : ℕ) → a < space → back d (target d a) ≡ a
unfolding back
back_target d a h = omega arith

back_below : (d a : ℕ) → back d a < space
unfolding back
back_below d a = omega arith

-- the bus below a shift
abbrev unshifted : ℕ → Cells → Cells
unshifted d shown a = cond (ltb a space) (shown (back d a)) (shown a)

below_shift : (d : ℕ) (below : Cells) → below ≡ unshifted d (shifted d below)
below_shift d below = fun_ext (λ a. let there = target_back d a in let inside = back_below d a in grind (arith, nat_tests))

-- the bus below a hush
abbrev uncovered : List Span → Cells → Cells → Cells
uncovered spans shown kept a = cond (covered spans a) (kept a) (shown a)

below_hush : (tag : ℕ) (spans : List Span) (below : Cells) → below ≡ uncovered spans (hushed tag spans below) (hidden spans below)
below_hush tag spans below = fun_ext (λ a. grind (arith, nat_tests))

-- one write, seen through each layer
low_written : (boundary : ℕ) (low high : Cells) (a v : ℕ) → joined boundary (put (joined boundary low high) a v) (joined boundary high low) ≡ cond (ltb a boundary) (put low a v) low
low_written boundary low high a v = fun_ext (λ k. grind (arith, nat_tests))

high_written : (boundary : ℕ) (low high : Cells) (a v : ℕ) → joined boundary (joined boundary high low) (put (joined boundary low high) a v) ≡ cond (ltb a boundary) high (put high a v)
high_written boundary low high a v = fun_ext (λ k. grind (arith, nat_tests))

shift_written : (d : ℕ) (below : Cells) (a v : ℕ) → unshifted d (put (shifted d below) a v) ≡ cond (ltb a space) (put below (target d a) v) below
shift_written d below a v =
    fun_ext (λ k.
    let there = target_back d k in
    let again = back_target d a in
    let inside = back_below d k in
    grind (arith, nat_tests, cases_eq (back d k) a))

hush_written : (tag : ℕ) (spans : List Span) (below : Cells) (a v : ℕ) → uncovered spans (put (hushed tag spans below) a v) (hidden spans below) ≡ cond (covered spans a) below (put below a v)
hush_written tag spans below a v = fun_ext (λ k. grind (arith, nat_tests))

same_numbers : (xs ys : List Span) → numbers xs ≡ numbers ys → xs ≡ ys
same_numbers [] [] e = refl
same_numbers [] (y ∷ ys) e = cc
same_numbers (x ∷ xs) [] e = cc
same_numbers (x ∷ xs) (y ∷ ys) e =
    let first : x.first ≡ y.first = cc in
    let last : x.last ≡ y.last = cc in
    let span : ℕ → ℕ → Span = λ f l. record { first = f; last = l } in
    ap₂ (λ (s : Span) (rest : List Span). s ∷ rest) (ap₂ span first last) (same_numbers xs ys (cc))

join_reaches : (a v : ℕ) → JoinReaches a v
join_reaches a v b b' low high low' high' s t s' t' shown shape =
    let same : b' ≡ b = cc in
    let kept : joined b' high' low' ≡ joined b high low = cc in (
      same,
      low_of b' low' high' ∙ ap (λ n. joined n (joined b' low' high') (joined b' high' low')) same ∙ ap₂ (joined b) shown kept ∙ low_written b low high a v,
      high_of b' low' high' ∙ ap (λ n. joined n (joined b' high' low') (joined b' low' high')) same ∙ ap₂ (joined b) kept shown ∙ high_written b low high a v,
      cc,
      cc,
    )

shift_reaches : (a v : ℕ) → ShiftReaches a v
shift_reaches a v d d' below below' s s' shown shape =
    let same : d' ≡ d = cc in
    (same, below_shift d' below' ∙ ap (λ n. unshifted n (shifted d' below')) same ∙ ap (unshifted d) shown ∙ shift_written d below a v, cc)

hush_reaches : (a v : ℕ) → HushReaches a v
hush_reaches a v tag tag' spans spans' below below' s s' shown shape =
    let same : spans' ≡ spans = same_numbers spans' spans (cc) in
    let kept : hidden spans' below' ≡ hidden spans below = cc in (
      cc,
      same,
      below_hush tag' spans' below' ∙ ap (λ (n : List Span). uncovered n (hushed tag' spans' below') (hidden spans' below')) same ∙ ap₂ (uncovered spans) shown kept ∙ hush_written tag spans below a v,
      cc,
    )

pub write_reaches : (a v : ℕ) → WriteReaches a v
write_reaches a v = record { join = join_reaches a v; shift = shift_reaches a v; hush = hush_reaches a v }

-- a write at a number that is no address changes nothing, so the laws of a write say what no write does
either_way : (c : Bool) (m : Cells) → cond c m m ≡ m
either_way true m = refl
either_way false m = refl

join_determined : JoinDetermined
join_determined b b' low high low' high' s t s' t' shown shape =
    let r = join_reaches space 0 b b' low high low' high' s t s' t' shown shape in
    (r.0, r.1 ∙ either_way (ltb space b) low, r.2 ∙ either_way (ltb space b) high, r.3, r.4)

hush_determined : HushDetermined
hush_determined tag tag' spans spans' below below' s s' shown shape =
    let r = hush_reaches space 0 tag tag' spans spans' below below' s s' shown shape in
    (r.0, r.1, r.2 ∙ either_way (covered spans space) below, r.3)

pub layers_determined : LayersDetermined
layers_determined = record { join = join_determined; shift = shift_reaches space 0; hush = hush_determined }
