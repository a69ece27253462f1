-- A read or a write, and its line. Assumes nothing.
use Rattle.std.specs.Prelude.{ℕ, List, ◌++◌, codes, Ok, Err, Result}
use Rattle.bus.specs.declared.refusal.Refusal.{Refusal}
use Rattle.bus.specs.Text.{hex_text}
use Rattle.dryer.specs.declared.tally.Call.{Call}
use Rattle.dryer.specs.declared.tally.Call.TheVariants as calls
use Rattle.report.specs.declared.access.Access.{Access}
use Rattle.report.specs.declared.access.Access.TheVariants.{Read, Write}
use Rattle.report.specs.Words.{lead, outcome, column}

-- what it is counted as
abbrev pub call_of : Access → Call
call_of (Read answer) = calls.Read
call_of (Write byte answer) = calls.Write

-- the byte that was read or written, unless the call was refused
abbrev pub byte_told : Access → Result ℕ Refusal
byte_told (Read answer) = answer
byte_told (Write byte (Ok done)) = Ok byte
byte_told (Write byte (Err refusal)) = Err refusal

-- what the call does, at which address, what is there, in a column of this width, and the byte or the refusal
abbrev pub access_text : ℕ → List ℕ → ℕ → Access → List ℕ
access_text width what address access =
    lead (call_of access) ++ (hex_text address ++ (codes " " ++ (column width what ++ (codes " " ++ outcome (byte_told access)))))
