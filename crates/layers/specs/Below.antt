-- What the cells and the shape of a layer tell of the buses below it. Assumes nothing.
use Rattle.std.specs.Prelude.{◌≡◌, ℕ, List, cond, nat_lt}
use Rattle.bus.specs.Address.{space}
use Rattle.bus.specs.Contract.{Cells, Shape, put}
use Rattle.span.specs.declared.span.Span.{Span}
use Rattle.span.specs.Span.{covered}
use Rattle.layers.specs.Join.{joined, joined_shape}
use Rattle.layers.specs.Shift.{target, shifted, shifted_shape}
use Rattle.layers.specs.Hush.{hushed, hushed_shape}

-- After a write of v at a through a join, of which the contract tells the cells and that the shape stayed:
-- the bus to which the address belongs has taken the write, and the other one is as it was.
abbrev pub JoinReaches : ℕ → ℕ → Type 0
JoinReaches a v = (b b' : ℕ) (low high low' high' : Cells) (s t s' t' : Shape) → joined b' low' high' ≡ put (joined b low high) a v → joined_shape b' low' high' s' t' ≡ joined_shape b low high s t → (b' ≡ b) × (low' ≡ cond (nat_lt a b) (put low a v) low) × (high' ≡ cond (nat_lt a b) high (put high a v)) × (s' ≡ s) × (t' ≡ t)

-- after one through a shift, the bus below has taken it at the other address
abbrev pub ShiftReaches : ℕ → ℕ → Type 0
ShiftReaches a v = (d d' : ℕ) (below below' : Cells) (s s' : Shape) → shifted d' below' ≡ put (shifted d below) a v → shifted_shape d' s' ≡ shifted_shape d s → (d' ≡ d) × (below' ≡ cond (nat_lt a space) (put below (target d a) v) below) × (s' ≡ s)

-- after one through a hush, the bus below has taken it, unless a span covers the address
abbrev pub HushReaches : ℕ → ℕ → Type 0
HushReaches a v = (tag tag' : ℕ) (spans spans' : List Span) (below below' : Cells) (s s' : Shape) → hushed tag' spans' below' ≡ put (hushed tag spans below) a v → hushed_shape tag' spans' below' s' ≡ hushed_shape tag spans below s → (tag' ≡ tag) × (spans' ≡ spans) × (below' ≡ cond (covered spans a) below (put below a v)) × (s' ≡ s)

pub record WriteReaches (a v : ℕ) : Type 0 where
  pub join : JoinReaches a v
  pub shift : ShiftReaches a v
  pub hush : HushReaches a v

-- Cells and shape are all of a layer: another with the same has the same numbers, and below it the same cells and shapes.
abbrev pub JoinDetermined : Type 0
JoinDetermined = (b b' : ℕ) (low high low' high' : Cells) (s t s' t' : Shape) → joined b' low' high' ≡ joined b low high → joined_shape b' low' high' s' t' ≡ joined_shape b low high s t → (b' ≡ b) × (low' ≡ low) × (high' ≡ high) × (s' ≡ s) × (t' ≡ t)

abbrev pub ShiftDetermined : Type 0
ShiftDetermined = (d d' : ℕ) (below below' : Cells) (s s' : Shape) → shifted d' below' ≡ shifted d below → shifted_shape d' s' ≡ shifted_shape d s → (d' ≡ d) × (below' ≡ below) × (s' ≡ s)

abbrev pub HushDetermined : Type 0
HushDetermined = (tag tag' : ℕ) (spans spans' : List Span) (below below' : Cells) (s s' : Shape) → hushed tag' spans' below' ≡ hushed tag spans below → hushed_shape tag' spans' below' s' ≡ hushed_shape tag spans below s → (tag' ≡ tag) × (spans' ≡ spans) × (below' ≡ below) × (s' ≡ s)

pub record LayersDetermined : Type 0 where
  pub join : JoinDetermined
  pub shift : ShiftDetermined
  pub hush : HushDetermined
