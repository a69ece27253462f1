-- Buses with the same cells cannot be told apart, and calls tell any two cells apart.
use Rattle.std.proofs.Common.{◌≡◌, ℕ, List, [], ◌∷◌, refl, ap₂, arith}
use Rattle.std.proofs.lemmas.Bool.{cases_lt}
use Rattle.std.proofs.lemmas.Bool.Decides.{nat_tests}
use Rattle.bus.specs.declared.cell.Cell.{Cell}
use Rattle.bus.specs.declared.cell.Cell.TheVariants.{Silent, Fixed, Open}
use Rattle.bus.specs.Address.{space, at}
use Rattle.bus.specs.Cell.{kind_of, read_of, write_of}
use Rattle.bus.specs.Contract.{Cells, kind_answer, read_answer, write_answer}
use Rattle.bus.specs.Meaning.{Call, Answer, kind, read, write, answer, after, heard, Agree, Indistinguishable, WholeMeaning}

same_answer : (m n : Cells) → Agree m n → (call : Call) → answer m call ≡ answer n call
same_answer m n e (kind a) = let same = e a in grind (arith, nat_tests, cases_lt a space)
same_answer m n e (read a) = let same = e a in grind (arith, nat_tests, cases_lt a space)
same_answer m n e (write a v) = let same = e a in grind (arith, nat_tests, cases_lt a space)

same_after : (m n : Cells) → Agree m n → (call : Call) → Agree (after m call) (after n call)
same_after m n e (kind a) = e
same_after m n e (read a) = e
same_after m n e (write a v) = λ k h. let same = e k h in grind (arith, nat_tests)

pub same_cells : (m n : Cells) → Agree m n → Indistinguishable m n
same_cells m n e [] = (refl, e)
same_cells m n e (call ∷ rest) =
    let later = same_cells (after m call) (after n call) (same_after m n e call) rest in
    (ap₂ (λ (x : Answer) (xs : List Answer). x ∷ xs) (same_answer m n e call) later.0, later.1)

-- kind, read and write tell two cells apart
told : (x y : Cell) (a : ℕ) → kind_of x ≡ kind_of y → read_of (at a) x ≡ read_of (at a) y → write_of (at a) x ≡ write_of (at a) y → x ≡ y
told (Silent t) (Silent u) a k r w = cc
told (Silent t) (Fixed b u) a k r w = cc
told (Silent t) (Open b) a k r w = cc
told (Fixed b t) (Silent u) a k r w = cc
told (Fixed b t) (Fixed d u) a k r w = cc
told (Fixed b t) (Open d) a k r w = cc
told (Open b) (Silent t) a k r w = cc
told (Open b) (Fixed d t) a k r w = cc
told (Open b) (Open d) a k r w = cc

calls_tell : (m n : Cells) → ((calls : List Call) → heard m calls ≡ heard n calls) → Agree m n
calls_tell m n e a h =
    let k : kind_answer m a ≡ kind_answer n a = let s = e (kind a ∷ []) in cc in
    let r : read_answer m a ≡ read_answer n a = let s = e (read a ∷ []) in cc in
    let w : write_answer m a ≡ write_answer n a = let s = e (write a 0 ∷ []) in cc in
    told (m a) (n a) a (grind (arith, nat_tests)) (grind (arith, nat_tests)) (grind (arith, nat_tests))

pub whole_meaning : (m n : Cells) → WholeMeaning m n
whole_meaning m n = record { enough = same_cells m n; needed = calls_tell m n }
