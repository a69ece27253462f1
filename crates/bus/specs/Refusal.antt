-- Number, address and tag of each refusal, and tests in a row. Assumes nothing.
use Rattle.std.specs.Prelude.{ℕ, Ok, Err, Result}
use Rattle.bus.specs.declared.address.Address.{Address}
use Rattle.bus.specs.declared.refusal.Refusal as refusals
use Rattle.bus.specs.declared.refusal.Refusal.TheVariants.{AddressTooHigh, WindowsOrSpans, Rights, OutOfRange, Sheet, Budget, GuestFresh, GuestFaulted, Fault}
use Rattle.bus.specs.declared.refusal.Fault as faults
use Rattle.bus.specs.declared.refusal.Fault.TheVariants.{Fenced, Silent, Fixed, NotCarried, NoAddress}

abbrev pub fault_number : faults.Fault → ℕ
fault_number (Fenced a) = 9
fault_number (Silent a t) = 10
fault_number (Fixed a t) = 11
fault_number (NotCarried a) = 12
fault_number (NoAddress a) = 13

-- the cell's address at 9 to 11, the instruction's first at 12 and 13
abbrev pub fault_address : faults.Fault → Address
fault_address (Fenced a) = a
fault_address (Silent a t) = a
fault_address (Fixed a t) = a
fault_address (NotCarried a) = a
fault_address (NoAddress a) = a

-- the cell's tag at 10 and 11
abbrev pub fault_tag : faults.Fault → ℕ
fault_tag (Fenced a) = 0
fault_tag (Silent a t) = t
fault_tag (Fixed a t) = t
fault_tag (NotCarried a) = 0
fault_tag (NoAddress a) = 0

abbrev pub refusal_number : refusals.Refusal → ℕ
refusal_number AddressTooHigh = 1
refusal_number WindowsOrSpans = 2
refusal_number Rights = 3
refusal_number OutOfRange = 4
refusal_number Sheet = 5
refusal_number Budget = 6
refusal_number GuestFresh = 7
refusal_number GuestFaulted = 8
refusal_number (Fault f) = fault_number f

-- 0 but for a fault
abbrev pub refusal_address : refusals.Refusal → ℕ
refusal_address AddressTooHigh = 0
refusal_address WindowsOrSpans = 0
refusal_address Rights = 0
refusal_address OutOfRange = 0
refusal_address Sheet = 0
refusal_address Budget = 0
refusal_address GuestFresh = 0
refusal_address GuestFaulted = 0
refusal_address (Fault f) = (fault_address f).value

-- 0 but for a fault
abbrev pub refusal_tag : refusals.Refusal → ℕ
refusal_tag AddressTooHigh = 0
refusal_tag WindowsOrSpans = 0
refusal_tag Rights = 0
refusal_tag OutOfRange = 0
refusal_tag Sheet = 0
refusal_tag Budget = 0
refusal_tag GuestFresh = 0
refusal_tag GuestFaulted = 0
refusal_tag (Fault f) = fault_tag f

-- what follows a test that was passed; a refusal ends it
abbrev pub passed : {A : Type 0} → Result (Unit {0}) refusals.Refusal → Result A refusals.Refusal → Result A refusals.Refusal
passed (Ok done) rest = rest
passed (Err e) rest = Err e
