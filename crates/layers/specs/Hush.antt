-- Hush: a bus of which some spans are silent. Assumes nothing.
use Rattle.std.specs.Prelude.{ℕ, cond, List, [], ◌∷◌}
use Rattle.bus.specs.declared.cell.Cell.TheVariants.{Silent}
use Rattle.bus.specs.Contract.{Cells, Shape, plain, holding}
use Rattle.span.specs.declared.span.Span.{Span}
use Rattle.span.specs.Span.{covered}
use Rattle.layers.specs.declared.hush.Hush.{Hush}

-- inside the spans silent cells with this tag, elsewhere the cells below
abbrev pub hushed : ℕ → List Span → Cells → Cells
hushed tag spans below a = cond (covered spans a) (Silent tag) (below a)

-- the cells below that the spans hide, a silent one in place of each other
abbrev pub hidden : List Span → Cells → Cells
hidden spans below a = cond (covered spans a) (below a) (Silent 0)

-- first and last address of each span
abbrev pub numbers : List Span → List ℕ
numbers [] = []
numbers (s ∷ rest) = s.first ∷ s.last ∷ numbers rest

-- the tag, the spans, and the cells that they hide
abbrev pub hushed_shape : ℕ → List Span → Cells → Shape → Shape
hushed_shape tag spans below shape = holding (tag ∷ numbers spans) (hidden spans below) shape plain

-- cells and shape of a hush, by what the cells and the shape below are
abbrev pub hush_cells : {B : Type 0} → (B → Cells) → Hush B → Cells
hush_cells belows h = hushed h.tag h.spans (belows h.below)

abbrev pub hush_shape : {B : Type 0} → (B → Cells) → (B → Shape) → Hush B → Shape
hush_shape belows below_shapes h = hushed_shape h.tag h.spans (belows h.below) (below_shapes h.below)
