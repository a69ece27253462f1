-- Layers over buses with the same cells have the same cells, and so cannot be told apart.
use Rattle.std.proofs.Common.{ℕ, ◌+◌, ◌<◌, List, [], refl, mod-lt, arith, lit<}
use Rattle.std.proofs.lemmas.Bool.Decides.{nat_tests}
use Rattle.bus.specs.Address.{space}
use Rattle.bus.specs.Contract.{Cells}
use Rattle.bus.specs.Meaning.{Agree}
use Rattle.bus.proofs.Meaning.{same_cells}
use Rattle.span.specs.declared.span.Span.{Span}
use Rattle.layers.specs.Join.{joined}
use Rattle.layers.specs.Shift.{target, shifted}
use Rattle.layers.specs.Hush.{hushed}
use Rattle.layers.specs.Laws.{ByCellsAlone, LayersCompose}

-- a layer that keeps agreement works by cells alone
by_cells : (layer : Cells → Cells) → ((m n : Cells) → Agree m n → Agree (layer m) (layer n)) → ByCellsAlone layer
by_cells layer keeps m n e = same_cells (layer m) (layer n) (keeps m n e)

join_keeps : (boundary : ℕ) (low high low' high' : Cells) → Agree low low' → Agree high high' → Agree (joined boundary low high) (joined boundary low' high')
join_keeps boundary low high low' high' e f a h =
    let same_low = e a h in
    let same_high = f a h in
    grind (arith, nat_tests)

itself : (m : Cells) → Agree m m
itself m a h = refl

target_below : (d a : ℕ) → target d a < space
target_below d a = mod-lt (a + d) (lit< tt)

shift_keeps : (d : ℕ) (m n : Cells) → Agree m n → Agree (shifted d m) (shifted d n)
shift_keeps d m n e a h = let same = e (target d a) (target_below d a) in grind (arith, nat_tests)

hush_keeps : (tag : ℕ) (spans : List Span) (m n : Cells) → Agree m n → Agree (hushed tag spans m) (hushed tag spans n)
hush_keeps tag spans m n e a h = let same = e a h in grind (arith, nat_tests)

pub layers_compose : LayersCompose
layers_compose =
    record {
      join = λ boundary low high low' high' e f. same_cells (joined boundary low high) (joined boundary low' high') (join_keeps boundary low high low' high' e f);
      low = λ boundary high. by_cells (λ low. joined boundary low high) (λ m n e. join_keeps boundary m high n high e (itself high));
      high = λ boundary low. by_cells (joined boundary low) (λ m n e. join_keeps boundary low m low n (itself low) e);
      shift = λ distance. by_cells (shifted distance) (shift_keeps distance);
      hush = λ tag spans. by_cells (hushed tag spans) (hush_keeps tag spans);
      stack = λ upper lower up low m n e. up (lower m) (lower n) (low m n e []).1;
    }
