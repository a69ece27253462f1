-- The probe bank: its registers, its cells, its shape, and what the host's settings make of them. Assumes nothing.
use Rattle.std.specs.Prelude.{◌≡◌, ℕ, ◌+◌, ◌<◌, ◌≤◌, Bool, false, cond, ◌&&◌, ◌∷◌, map, length, replicate, Err, Result, ◌==◌, ◌≢◌, nat_lt, slice_index_or, slice_set}
use Rattle.bus.specs.declared.cell.Cell.{Cell}
use Rattle.bus.specs.declared.cell.Cell.TheVariants.{Silent, Fixed, Open}
use Rattle.probe.specs.declared.bank.Direction.{Direction}
use Rattle.probe.specs.declared.bank.Direction.TheVariants.{Input, Output}
use Rattle.probe.specs.declared.bank.Register.{Register}
use Rattle.probe.specs.declared.bank.ProbeBank.{ProbeBank}
use Rattle.bus.specs.declared.refusal.Refusal.{Refusal}
use Rattle.bus.specs.declared.refusal.Refusal.TheVariants.{OutOfRange}
use Rattle.bus.specs.Address.{space}
use Rattle.bus.specs.Contract.{Cells, Shape, plain, holding}
use Rattle.bus.specs.Extent.{stretch}

-- a new register: an input of 0 that does not answer
abbrev pub unset : Register
unset = record { direction = Input; answering = false; byte = 0 }

abbrev pub new_bank : ℕ → ℕ → ProbeBank
new_bank tag base = record { base = base; tag = tag; registers = replicate 32 unset }

abbrev pub silent_cells : ℕ → Cells
silent_cells tag a = Silent tag

abbrev pub register_of : ProbeBank → ℕ → Register
register_of bank n = slice_index_or bank.registers n unset

-- the cell of a register that answers
abbrev pub active_cell : ℕ → Direction → ℕ → Cell
active_cell tag Input b = Fixed b tag
active_cell tag Output b = Open b

abbrev pub register_cell : ℕ → Register → Cell
register_cell tag r = cond r.answering (active_cell tag r.direction r.byte) (Silent tag)

abbrev pub bank_cells : ProbeBank → Cells
bank_cells bank = stretch bank.tag bank.base 32 (λ n. register_cell bank.tag (register_of bank n))

-- an answer for the number of a register, and the refusal for any other
abbrev pub in_bank : {A : Type 0} → ℕ → Result A Refusal → Result A Refusal
in_bank n answer = cond (nat_lt n 32) answer (Err OutOfRange)

-- a register with one property set, the other two as they were
abbrev pub with_direction : Direction → Register → Register
with_direction d r = record { direction = d; answering = r.answering; byte = r.byte }

abbrev pub with_answering : Bool → Register → Register
with_answering t r = record { direction = r.direction; answering = t; byte = r.byte }

abbrev pub with_byte : ℕ → Register → Register
with_byte b r = record { direction = r.direction; answering = r.answering; byte = b }

-- the bank with register n changed and the others as they were; unchanged where there is no register n
abbrev pub with_register : ℕ → (Register → Register) → ProbeBank → ProbeBank
with_register n change bank = record { base = bank.base; tag = bank.tag; registers = cond (nat_lt n 32) (slice_set bank.registers n (change (register_of bank n))) bank.registers }

-- the cells with that of register n changed and the others as they were
abbrev pub replaced : ℕ → (Register → Register) → ProbeBank → Cells
replaced n change bank a = cond (nat_lt n 32 && (nat_lt a space && a == bank.base + n)) (register_cell bank.tag (change (register_of bank n))) (bank_cells bank a)

-- What a setting does, whatever the bank, the number and the change: every other register is as it was, and the one of that number is changed;
-- a number above 31 leaves the bank as it was.
pub record OneRegister (bank : ProbeBank) (n : ℕ) (change : Register → Register) : Type 0 where
  pub others : (k : ℕ) → (k ≢ n) → register_of (with_register n change bank) k ≡ register_of bank k
  pub itself : length bank.registers ≡ 32 → n < 32 → register_of (with_register n change bank) n ≡ change (register_of bank n)
  pub refused : 32 ≤ n → with_register n change bank ≡ bank

abbrev pub direction_number : Direction → ℕ
direction_number Input = 0
direction_number Output = 1

-- direction and answering as one number
abbrev pub mode_number : Register → ℕ
mode_number r = direction_number r.direction + cond r.answering 2 0

-- a register's byte, left out where its cell is open, since that shows the byte and takes another
abbrev pub hidden_byte : Cell → Register → Cell
hidden_byte (Silent t) r = Open r.byte
hidden_byte (Fixed b t) r = Open r.byte
hidden_byte (Open b) r = Silent 0

abbrev pub hidden_bytes : ProbeBank → Cells
hidden_bytes bank n = hidden_byte (bank_cells bank (bank.base + n)) (register_of bank n)

-- tag, base, direction and answering of each register, and the bytes of those that are not open
abbrev pub bank_shape : ProbeBank → Shape
bank_shape bank = holding (bank.tag ∷ bank.base ∷ map mode_number bank.registers) (hidden_bytes bank) plain plain

-- cells and shape are all of a bank: another with the same is the same
abbrev pub BankDetermined : Type 0
BankDetermined = (bank other : ProbeBank) → bank_cells other ≡ bank_cells bank → bank_shape other ≡ bank_shape bank → other ≡ bank
