-- What one cell answers, and what a write makes of it. Assumes nothing.
use Rattle.std.specs.Prelude.{ℕ, Ok, Err, Result}
use Rattle.bus.specs.declared.address.Address.{Address}
use Rattle.bus.specs.declared.cell.Cell.{Cell}
use Rattle.bus.specs.declared.cell.Cell.TheVariants.{Silent, Fixed, Open}
use Rattle.bus.specs.declared.cell.Kind.{Kind}
use Rattle.bus.specs.declared.cell.Kind.TheVariants as kinds
use Rattle.bus.specs.declared.refusal.Refusal.{Refusal}
use Rattle.bus.specs.declared.refusal.Refusal.TheVariants.{Fault}
use Rattle.bus.specs.declared.refusal.Fault.TheVariants as faults

abbrev pub kind_number : Kind → ℕ
kind_number kinds.Silent = 0
kind_number kinds.Fixed = 1
kind_number kinds.Open = 2

abbrev pub kind_of : Cell → Kind
kind_of (Silent t) = kinds.Silent
kind_of (Fixed b t) = kinds.Fixed
kind_of (Open b) = kinds.Open

abbrev pub read_of : Address → Cell → Result ℕ Refusal
read_of a (Silent t) = Err (Fault (faults.Silent a t))
read_of a (Fixed b t) = Ok b
read_of a (Open b) = Ok b

abbrev pub write_of : Address → Cell → Result (Unit {0}) Refusal
write_of a (Silent t) = Err (Fault (faults.Silent a t))
write_of a (Fixed b t) = Err (Fault (faults.Fixed a t))
write_of a (Open b) = Ok tt

-- the cell after a write of v to it: an open one has the new byte, any other is as it was
abbrev pub written : ℕ → Cell → Cell
written v (Silent t) = Silent t
written v (Fixed b t) = Fixed b t
written v (Open b) = Open v

-- the tag of a cell; an open one has none, and 0 stands for it
abbrev pub tag_of : Cell → ℕ
tag_of (Silent t) = t
tag_of (Fixed b t) = t
tag_of (Open b) = 0

-- the byte of a cell; a silent one has none, and 0 stands for it
abbrev pub byte_of : Cell → ℕ
byte_of (Silent t) = 0
byte_of (Fixed b t) = b
byte_of (Open b) = b
