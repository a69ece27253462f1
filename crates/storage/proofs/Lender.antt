-- What the lender of a memory's bytes has, from the cells of the memory at its last use.
use Rattle.std.proofs.Common.{◌≡◌, ℕ, ◌+◌, ◌-◌, ◌≤◌, cond, leb, List, [], ◌∷◌, length, set, sym, refl, ap, ◌∙◌, arith, length-set, get_or-set_other, get_or-set_same}
use Rattle.std.proofs.lemmas.Bool.{cases_eq, cases_lt}
use Rattle.std.proofs.lemmas.Bool.Decides.{nat_tests}
use Rattle.std.proofs.lemmas.List.FromFn.{fill_by_all}
use Rattle.bus.specs.declared.cell.Cell.TheVariants.{Open}
use Rattle.bus.specs.Address.{space}
use Rattle.bus.specs.Cell.{byte_of}
use Rattle.bus.specs.Contract.{Cells, put, holding, plain}
use Rattle.storage.specs.declared.memory.Memory.{Memory}
use Rattle.storage.specs.Memory.{open_from, memory_cells, memory_shape, bytes_from}
use Rattle.storage.proofs.Determined.{shown_at}

-- m: the memory at its last use, of which the shape is still the one that it was made with; bytes: what the lender has then; cells: what the cells are then
pub lender_has : (m : Memory) (bytes : List ℕ) (cells hidden : Cells) (tag base n lender : ℕ) → memory_shape m ≡ holding (tag ∷ base ∷ n ∷ lender ∷ []) hidden plain plain → (lender ≡ m.bytes.ghost_name → bytes ≡ m.bytes.now) → memory_cells m ≡ cells → base + n ≤ space → bytes ≡ bytes_from cells base n
lender_has m bytes cells hidden tag base n lender kept home shown room =
    let xs = m.bytes.now in
    let eb : m.base ≡ base = cc in
    let el : length xs ≡ n = cc in
    let en : lender ≡ m.bytes.ghost_name = cc in
    home en ∙ fill_by_all (λ i. byte_of (cells (base + i))) xs n 0 el (λ i h. sym (shown_at Open (λ _. refl) m.tag m.base xs i (omega arith) (omega arith)) ∙ ap byte_of (ap (λ b. memory_cells m (b + i)) eb ∙ ap (λ (f : Cells). f (base + i)) shown))

-- a write at an address sets the byte there, if there is one
pub put_bytes : (tag base : ℕ) (xs : List ℕ) (a v : ℕ) → base + length xs ≤ space → bytes_from (put (open_from tag base xs) a v) base (length xs) ≡ cond (leb base a) (set xs (a - base) v) xs
put_bytes tag base xs a v room =
    sym (fill_by_all (λ k. byte_of (put (open_from tag base xs) a v (base + k))) (cond (leb base a) (set xs (a - base) v) xs) (length xs) 0 (let l = length-set xs (a - base) v in grind (arith, nat_tests)) (λ k h.
    let same = get_or-set_same xs (a - base) v 0 in
    let other = get_or-set_other xs (a - base) k v 0 in
    grind (arith, nat_tests, cases_eq k (a - base), cases_lt a base)))
