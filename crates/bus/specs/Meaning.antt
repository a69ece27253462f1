-- What can be learned of a bus by its calls: its cells, and no more. Assumes nothing.
use Rattle.std.specs.Prelude.{◌≡◌, ℕ, ◌<◌, List, [], ◌∷◌, Result}
use Rattle.bus.specs.declared.cell.Kind.{Kind}
use Rattle.bus.specs.declared.refusal.Refusal.{Refusal}
use Rattle.bus.specs.Address.{space}
use Rattle.bus.specs.Contract.{Cells, kind_answer, read_answer, write_answer, put}

pub data Call : Type 0 where
  kind : ℕ → Call
  read : ℕ → Call
  write : ℕ → ℕ → Call

pub data Answer : Type 0 where
  of_kind : Result Kind Refusal → Answer
  of_read : Result ℕ Refusal → Answer
  of_write : Result (Unit {0}) Refusal → Answer

-- What a call answers, and the cells after it: by the contract of `Bus`, what the calls of a bus with these cells answer and leave.
abbrev pub answer : Cells → Call → Answer
answer m (kind a) = of_kind (kind_answer m a)
answer m (read a) = of_read (read_answer m a)
answer m (write a v) = of_write (write_answer m a)

abbrev pub after : Cells → Call → Cells
after m (kind a) = m
after m (read a) = m
after m (write a v) = put m a v

-- what calls in turn answer, and the cells after all of them
abbrev pub heard : Cells → List Call → List Answer
heard m [] = []
heard m (call ∷ rest) = answer m call ∷ heard (after m call) rest

abbrev pub left : Cells → List Call → Cells
left m [] = m
left m (call ∷ rest) = left (after m call) rest

-- the same cell at every address
abbrev pub Agree : Cells → Cells → Type 0
Agree m n = (a : ℕ) → a < space → m a ≡ n a

-- whatever is called, the answers are the same, and so are the cells afterwards
abbrev pub Indistinguishable : Cells → Cells → Type 0
Indistinguishable m n = (calls : List Call) → (heard m calls ≡ heard n calls) × Agree (left m calls) (left n calls)

-- The cells are the whole meaning of a bus: where they agree, no calls tell two buses apart, and where no calls do, they agree.
pub record WholeMeaning (m n : Cells) : Type 0 where
  pub enough : Agree m n → Indistinguishable m n
  pub needed : ((calls : List Call) → heard m calls ≡ heard n calls) → Agree m n
