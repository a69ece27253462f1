-- What the clauses of `src/address` cite. Assumes nothing.
use Rattle.std.specs.Prelude.{◌≡◌, ℕ, ◌%◌, cond, IfOk, Ok, Err, Result, nat_lt}
use Rattle.std.proofs.Common.{mod-lt, lit<}
use Rattle.bus.specs.declared.address.Address.{Address}
use Rattle.bus.specs.declared.refusal.Refusal.{Refusal}
use Rattle.bus.specs.declared.refusal.Refusal.TheVariants.{AddressTooHigh}

-- how many addresses there are
abbrev pub space : ℕ
space = 16777216

-- the address with this number; after the last address comes 0 again
unfoldable pub at : ℕ → Address
at n = record { value = n % space; below = mod-lt n (lit< tt) }

-- an answer for a number that is an address, and the refusal for any other
abbrev pub in_space : {A : Type 0} → ℕ → Result A Refusal → Result A Refusal
in_space n answer = cond (nat_lt n space) answer (Err AddressTooHigh)

-- what an answer about a number is: the address with this number, or the refusal where there is none
pub record AddressOf (n : ℕ) (answer : Result Address Refusal) : Type 0 where
  pub answers : answer ≡ in_space n (Ok (at n))
  pub value : IfOk answer (λ a. a.value ≡ n)
