-- The log of a shift, by its bytes. Assumes nothing.
use Rattle.std.specs.Prelude.{ℕ, ◌+◌, cond, List, Result, slice_set}
use Rattle.bus.specs.declared.refusal.Refusal.{Refusal}
use Rattle.storage.specs.Lent.{has_room, lent_answer}

abbrev pub log_at : ℕ
log_at = 4096

abbrev pub log_tag : ℕ
log_tag = 1

-- an hour beyond the log's end is refused as a silent cell is
abbrev pub note_answer : List ℕ → ℕ → Result (Unit {0}) Refusal
note_answer log hour = lent_answer log_tag log_at log (log_at + hour)

-- the byte of this hour replaced, every other as it was
abbrev pub logged : List ℕ → ℕ → ℕ → List ℕ
logged log hour byte = cond (has_room log_at log) (slice_set log hour byte) log
