-- What a refusal tells its caller, and an answer that tells it. Assumes nothing.
use Rattle.std.specs.Prelude.{Ok, Err, Result}
use Rattle.bus.specs.declared.refusal.Refusal.{Refusal}
use Rattle.bus.specs.Refusal.{refusal_number, refusal_address, refusal_tag}
use Rattle.bench.specs.declared.Reason.{Reason}

-- its number, and the address and the tag of its cell
abbrev pub reason_of : Refusal → Reason
reason_of r = record { number = refusal_number r; address = refusal_address r; tag = refusal_tag r }

-- a done call answers as before, and a refused one with the reason
abbrev pub told_of : {T : Type 0} → Result T Refusal → Result T Reason
told_of (Ok x) = Ok x
told_of (Err e) = Err (reason_of e)
