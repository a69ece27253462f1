-- A bank in which one register was set: its cells, and its shape where the cell is open.
use Rattle.std.proofs.Common.{◌≡◌, ℕ, ◌+◌, ◌-◌, ◌<◌, cond, ◌&&◌, eqb, ltb, List, ◌∷◌, length, replicate, set, Some, refl, ap, ◌∙◌, ap₂, arith, get_or-set_other, get_or-set_same}
use mathlib.Core.Path.{fun_ext}
use lib.Seq.{map-set_same}
use Rattle.std.proofs.lemmas.Simd.{get_or-replicate}
use Rattle.std.proofs.lemmas.Bool.{cases_eq, cases_lt}
use Rattle.std.proofs.lemmas.Bool.Decides.{nat_tests}
use Rattle.bus.specs.declared.cell.Kind.TheVariants.{Open}
use Rattle.probe.specs.declared.bank.Register.{Register}
use Rattle.probe.specs.declared.bank.ProbeBank.{ProbeBank}
use Rattle.bus.specs.Address.{space}
use Rattle.bus.specs.Cell.{kind_of, written}
use Rattle.bus.specs.Contract.{Cells, put, holding, plain}
use Rattle.bus.specs.Extent.{offset_in}
use Rattle.probe.specs.Bank.{unset, silent_cells, register_of, register_cell, bank_cells, bank_shape, with_byte, with_register, replaced, mode_number}

abbrev pub changed : ProbeBank → ℕ → Register → ProbeBank
changed bank n r = record { base = bank.base; tag = bank.tag; registers = set bank.registers n r }

changed_cell : (bank : ProbeBank) (n : ℕ) (r : Register) → length bank.registers ≡ 32 → n < 32 → (a : ℕ) → bank_cells (changed bank n r) a ≡ cond (ltb a space && eqb a (bank.base + n)) (register_cell bank.tag r) (bank_cells bank a)
changed_cell bank n r full h a =
    let same = get_or-set_same bank.registers n r unset (omega arith) in
    let other = get_or-set_other bank.registers n (a - bank.base) r unset in
    grind (arith, nat_tests, cases_eq (a - bank.base) n)

-- the cells of a bank of which one register was set
pub set_cells : (bank : ProbeBank) (n : ℕ) (change : Register → Register) → length bank.registers ≡ 32 → {x : ProbeBank} → x ≡ with_register n change bank → bank_cells x ≡ replaced n change bank
set_cells bank n change full e = ap bank_cells e ∙ fun_ext (λ a. let same = changed_cell bank n (change (register_of bank n)) full in grind (arith, nat_tests, cases_lt n 32))

-- which register an address has
found : (base a n : ℕ) → offset_in base 32 a ≡ Some n → (a < space) × (a ≡ base + n) × (n < 32)
found base a n e = (grind (arith, nat_tests), grind (arith, nat_tests), grind (arith, nat_tests))

opened : (tag v : ℕ) (r : Register) → kind_of (register_cell tag r) ≡ Open → register_cell tag (with_byte v r) ≡ written v (register_cell tag r)
opened tag v r e = grind (arith, nat_tests)

-- the cells and the shape of a bank after a byte was stored in its register n, which is open and has the address a
pub stored_cells : (bank : ProbeBank) (a n v : ℕ) → length bank.registers ≡ 32 → offset_in bank.base 32 a ≡ Some n → kind_of (register_cell bank.tag (register_of bank n)) ≡ Open → (r : Register) → r ≡ with_byte v (register_of bank n) → bank_cells (changed bank n r) ≡ put (bank_cells bank) a v
stored_cells bank a n v full e shown r stored =
    let f = found bank.base a n e in
    ap (λ (x : Register). bank_cells (changed bank n x)) stored ∙ fun_ext (λ k.
    let c = changed_cell bank n (with_byte v (register_of bank n)) full f.2 k in
    let o = opened bank.tag v (register_of bank n) shown in
    grind (arith, nat_tests))

pub stored_shape : (bank : ProbeBank) (a n v : ℕ) → length bank.registers ≡ 32 → offset_in bank.base 32 a ≡ Some n → kind_of (register_cell bank.tag (register_of bank n)) ≡ Open → (r : Register) → r ≡ with_byte v (register_of bank n) → bank_shape (changed bank n r) ≡ bank_shape bank
stored_shape bank a n v full e shown r stored =
    let f = found bank.base a n e in
    let s = with_byte v (register_of bank n) in
    ap (λ (x : Register). bank_shape (changed bank n x)) stored ∙ ap₂ (λ (xs : List ℕ) (hidden : Cells). holding (bank.tag ∷ bank.base ∷ xs) hidden plain plain)
    (map-set_same mode_number bank.registers n s unset refl)
    (fun_ext (λ k.
    let c = changed_cell bank n s full f.2 (bank.base + k) in
    let o = opened bank.tag v (register_of bank n) shown in
    let same = get_or-set_same bank.registers n s unset (omega arith) in
    let other = get_or-set_other bank.registers n k s unset in
    grind (arith, nat_tests, cases_eq k n)))

-- no register of a new bank answers
pub new_cells : (tag base : ℕ) {new : Register} → new ≡ unset → bank_cells record { base = base; tag = tag; registers = replicate 32 new } ≡ silent_cells tag
new_cells tag base {new} e = ap (λ r. bank_cells record { base = base; tag = tag; registers = replicate 32 r }) e ∙ fun_ext (λ a. let u = get_or-replicate 32 (a - base) unset unset in grind (arith, nat_tests))
