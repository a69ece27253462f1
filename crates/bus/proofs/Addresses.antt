-- Two addresses with one number are the same.
use Rattle.std.proofs.Common.{◌≡◌, ◌<◌}
use mathlib.Core.HLevel.{is_prop→PathP}
use native.Mathlib.Bridge.{le_prop}
use Rattle.bus.specs.declared.address.Address.{Address}
use Rattle.bus.specs.Address.{space}

pub same_number : (a b : Address) → a.value ≡ b.value → a ≡ b
same_number a b e = λ i. record { value = e i; below = is_prop→PathP (λ j. e j < space) (λ j. le_prop) a.below b.below i }
