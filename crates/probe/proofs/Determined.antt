-- Cells and shape determine a bank: direction and answering come from the mode numbers, a byte from its open cell or else from the hidden bytes.
use Rattle.std.proofs.Common.{◌≡◌, ℕ, ◌+◌, map, length, get_or, sym, ap, ◌∙◌, arith}
use Rattle.std.proofs.lemmas.List.{ext_get_or, length-map, get_or-map}
use Rattle.std.proofs.lemmas.Bool.Decides.{nat_tests}
use Rattle.bus.specs.Contract.{Cells}
use Rattle.probe.specs.declared.bank.Register.{Register}
use Rattle.probe.specs.declared.bank.ProbeBank.{ProbeBank}
use Rattle.probe.specs.Bank.{unset, register_of, bank_cells, mode_number, hidden_byte, hidden_bytes, BankDetermined}

same_answering : (r s : Register) → mode_number r ≡ mode_number s → r.answering ≡ s.answering
same_answering r s e = grind (arith, nat_tests)

same_direction : (r s : Register) → mode_number r ≡ mode_number s → r.direction ≡ s.direction
same_direction r s e = grind (arith, nat_tests)

-- the byte of a register: shown where the cell is open, hidden elsewhere
same_byte : (bank other : ProbeBank) (i : ℕ) → bank_cells other (other.base + i) ≡ bank_cells bank (bank.base + i) → hidden_byte (bank_cells other (other.base + i)) (register_of other i) ≡ hidden_byte (bank_cells bank (bank.base + i)) (register_of bank i) → (register_of other i).byte ≡ (register_of bank i).byte
same_byte bank other i shown hidden = grind (arith, nat_tests)

same_register : (r s : Register) → mode_number r ≡ mode_number s → r.byte ≡ s.byte → r ≡ s
same_register r s e b = λ i. record { direction = same_direction r s e i; answering = same_answering r s e i; byte = b i }

pub bank_determined : BankDetermined
bank_determined bank other shown kept =
    let et : other.tag ≡ bank.tag = cc in
    let eb : other.base ≡ bank.base = cc in
    let es : map mode_number other.registers ≡ map mode_number bank.registers = cc in
    let el : length other.registers ≡ length bank.registers = sym (length-map other.registers mode_number) ∙ ap length es ∙ length-map bank.registers mode_number in
    let hidden : hidden_bytes other ≡ hidden_bytes bank = cc in
    let er : other.registers ≡ bank.registers = ext_get_or unset other.registers bank.registers el (λ i h.
    same_register (register_of other i) (register_of bank i)
    (sym (get_or-map mode_number other.registers i unset 0 h) ∙ ap (λ xs. get_or xs i 0) es ∙ get_or-map mode_number bank.registers i unset 0 (omega arith))
    (same_byte bank other i (ap (λ (m : Cells). m (other.base + i)) shown ∙ ap (λ b. bank_cells bank (b + i)) eb) (ap (λ (m : Cells). m i) hidden))) in
    λ i. record { base = eb i; tag = et i; registers = er i }
