-- How layers compose. Assumes nothing.
use Rattle.std.specs.Prelude.{◌≡◌, ℕ, ◌+◌, ◌%◌, ◌≤◌, List, []}
use Rattle.bus.specs.Address.{space}
use Rattle.bus.specs.Contract.{Cells}
use Rattle.bus.specs.Meaning.{Agree, Indistinguishable}
use Rattle.span.specs.declared.span.Span.{Span}
use Rattle.layers.specs.Join.{joined}
use Rattle.layers.specs.Shift.{shifted}
use Rattle.layers.specs.Hush.{hushed}

-- no calls tell the layer over one bus from the same layer over another with the same cells
abbrev pub ByCellsAlone : (Cells → Cells) → Type 0
ByCellsAlone layer = (m n : Cells) → Agree m n → Indistinguishable (layer m) (layer n)

-- Each layer works by the cells below it alone, a join by those of both its buses and so of either, and so does any stack of such layers.
pub record LayersCompose : Type 0 where
  pub join : (boundary : ℕ) (low high low' high' : Cells) → Agree low low' → Agree high high' → Indistinguishable (joined boundary low high) (joined boundary low' high')
  pub low : (boundary : ℕ) (high : Cells) → ByCellsAlone (λ low. joined boundary low high)
  pub high : (boundary : ℕ) (low : Cells) → ByCellsAlone (joined boundary low)
  pub shift : (distance : ℕ) → ByCellsAlone (shifted distance)
  pub hush : (tag : ℕ) (spans : List Span) → ByCellsAlone (hushed tag spans)
  pub stack : (upper lower : Cells → Cells) → ByCellsAlone upper → ByCellsAlone lower → ByCellsAlone (λ m. upper (lower m))

-- Layers that change nothing, and two that are one.
pub record LayerLaws (m n : Cells) : Type 0 where
  pub all_low : (boundary : ℕ) → space ≤ boundary → Agree (joined boundary m n) m
  pub all_high : Agree (joined 0 m n) n
  pub no_shift : shifted 0 m ≡ m
  pub two_shifts : (d e : ℕ) → shifted d (shifted e m) ≡ shifted ((d + e) % space) m
  pub no_spans : (tag : ℕ) → hushed tag [] m ≡ m
