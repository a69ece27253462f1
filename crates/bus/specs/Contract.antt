-- The cells of a bus, what a write makes of them, and what a bus holds besides. Assumes nothing.
use Rattle.std.specs.Prelude.{◌≡◌, ℕ, cond, ◌&&◌, List, Ok, Err, Result, ◌==◌, ◌≢◌, nat_lt}
use Rattle.bus.specs.declared.cell.Cell.{Cell}
use Rattle.bus.specs.declared.cell.Cell.TheVariants.{Open}
use Rattle.bus.specs.declared.cell.Kind.{Kind}
use Rattle.bus.specs.declared.refusal.Refusal.{Refusal}
use Rattle.bus.specs.Address.{space, at, in_space}
use Rattle.bus.specs.Cell.{kind_of, tag_of, read_of, write_of, written}

-- the cell at each address
abbrev pub Cells : Type 0
Cells = ℕ → Cell

-- what the three calls answer at a
abbrev pub kind_answer : Cells → ℕ → Result Kind Refusal
kind_answer m a = in_space a (Ok (kind_of (m a)))

abbrev pub read_answer : Cells → ℕ → Result ℕ Refusal
read_answer m a = in_space a (read_of (at a) (m a))

abbrev pub write_answer : Cells → ℕ → Result (Unit {0}) Refusal
write_answer m a = in_space a (write_of (at a) (m a))

-- the cells after a write of v at a
abbrev pub put : Cells → ℕ → ℕ → Cells
put m a v k = cond (nat_lt a space && k == a) (written v (m k)) (m k)

-- What a write does, whatever the cells, the address and the byte: cells at other addresses stay, and at its own address kind and tag;
-- a done write leaves the byte there in an open cell, and a refused one leaves every cell.
pub record OneByte (before : Cells) (a v : ℕ) : Type 0 where
  pub others : (k : ℕ) → (k ≢ a) → put before a v k ≡ before k
  pub same_kind : kind_of (put before a v a) ≡ kind_of (before a)
  pub same_tag : tag_of (put before a v a) ≡ tag_of (before a)
  pub done : write_answer before a ≡ Ok tt → put before a v a ≡ Open v
  pub refused : (r : Refusal) → write_answer before a ≡ Err r → put before a v ≡ before

-- What a bus holds and its cells do not show: nothing, or
-- numbers (its bounds and tag, where its bytes are lent from), cells that are not shown, and the shapes of the buses below it.
pub data Shape : Type 0 where
  plain : Shape
  holding : List ℕ → Cells → Shape → Shape → Shape
