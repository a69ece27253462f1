-- A stretch of addresses from a base on. Assumes nothing.
use Rattle.std.specs.Prelude.{ℕ, ◌+◌, ◌-◌, Bool, cond, ◌&&◌, Some, None, Ok, Err, Option, Result, nat_le, nat_lt}
use Rattle.bus.specs.declared.cell.Cell.{Cell}
use Rattle.bus.specs.declared.cell.Cell.TheVariants.{Silent}
use Rattle.bus.specs.declared.refusal.Refusal.{Refusal}
use Rattle.bus.specs.declared.refusal.Refusal.TheVariants.{OutOfRange}
use Rattle.bus.specs.Address.{space}
use Rattle.bus.specs.Contract.{Cells}

-- the test before a making: the whole stretch lies in the address space
abbrev pub fits : ℕ → ℕ → Result (Unit {0}) Refusal
fits base length = cond (nat_le (base + length) space) (Ok tt) (Err OutOfRange)

-- a is an address, and lies in the stretch
abbrev pub within : ℕ → ℕ → ℕ → Bool
within base length a = nat_lt a space && (nat_le base a && nat_lt (a - base) length)

abbrev pub offset_in : ℕ → ℕ → ℕ → Option ℕ
offset_in base length a = cond (within base length a) (Some (a - base)) None

-- in the stretch the given cells in turn, outside it silent ones with this tag
abbrev pub stretch : ℕ → ℕ → ℕ → (ℕ → Cell) → Cells
stretch tag base length cell a = cond (within base length a) (cell (a - base)) (Silent tag)

-- of those cells the ones that lie beyond the last address, a silent one in place of each other
abbrev pub left_out : ℕ → (ℕ → Cell) → Cells
left_out base cell i = cond (nat_lt (base + i) space) (Silent 0) (cell i)
