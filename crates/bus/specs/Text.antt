-- What a refusal says in words. Assumes nothing.
use Rattle.std.specs.Prelude.{ℕ, ◌-◌, ◌^◌, false, true, List, [], ◌++◌, codes}
use Rattle.std.specs.Fmt.{digits, decimal, format_spec, padded_integral}
use Rattle.bus.specs.declared.refusal.Refusal as refusals
use Rattle.bus.specs.declared.refusal.Refusal.TheVariants.{AddressTooHigh, WindowsOrSpans, Rights, OutOfRange, Sheet, Budget, GuestFresh, GuestFaulted, Fault}
use Rattle.bus.specs.declared.refusal.Fault as faults
use Rattle.bus.specs.declared.refusal.Fault.TheVariants.{Fenced, Silent, Fixed, NotCarried, NoAddress}
use Rattle.bus.specs.Refusal.{refusal_number, refusal_address, refusal_tag}

-- an address: a dollar sign, and at least six hexadecimal digits
abbrev pub hex_text : ℕ → List ℕ
hex_text n = codes "$" ++ padded_integral (format_spec 32 0 4 6 (2 ^ 64 - 1)) false [] (digits 16 true n)

-- why an access or an instruction cannot be carried out
abbrev pub fault_ground : faults.Fault → List ℕ
fault_ground (Fenced a) = codes "the fence does not allow the access"
fault_ground (Silent a t) = codes "the cell is silent"
fault_ground (Fixed a t) = codes "the cell is fixed"
fault_ground (NotCarried a) = codes "the instruction is not carried"
fault_ground (NoAddress a) = codes "the operand has no address"

-- why a call is refused
abbrev pub refusal_ground : refusals.Refusal → List ℕ
refusal_ground AddressTooHigh = codes "an address is above $FFFFFF"
refusal_ground WindowsOrSpans = codes "there are too many windows or spans, or their order is broken"
refusal_ground Rights = codes "rights are neither 1 nor 3"
refusal_ground OutOfRange = codes "a number is out of range"
refusal_ground Sheet = codes "a sheet is malformed"
refusal_ground Budget = codes "a budget is above 1,000,000"
refusal_ground GuestFresh = codes "the guest was never reset"
refusal_ground GuestFaulted = codes "the guest has faulted"
refusal_ground (Fault f) = fault_ground f

-- number, ground, address and tag
abbrev pub refusal_text : refusals.Refusal → List ℕ
refusal_text r = codes "refused with " ++ (decimal (refusal_number r) ++ (codes ", " ++ (refusal_ground r ++ (codes ": address " ++ (hex_text (refusal_address r) ++ (codes ", tag " ++ decimal (refusal_tag r)))))))
