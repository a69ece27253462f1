-- Counting calls: as read, as written, as set, or as refused. Assumes nothing.
use Rattle.std.specs.Prelude.{◌≡◌, ℕ, ◌+◌, ◌-◌, ◌^◌, ◌<◌, min, Ok, Err, Result}
use Rattle.bus.specs.declared.refusal.Refusal.{Refusal}
use Rattle.dryer.specs.declared.tally.Call.{Call}
use Rattle.dryer.specs.declared.tally.Call.TheVariants.{Read, Write, Set}
use Rattle.dryer.specs.declared.tally.Tally.{Tally}

abbrev pub none : Tally
none = record { read = 0; written = 0; set = 0; refused = 0 }

abbrev pub all : Tally → ℕ
all t = t.read + t.written + t.set + t.refused

-- one more, up to the largest number that a count holds
abbrev pub more : ℕ → ℕ
more n = min (n + 1) (2 ^ 32 - 1)

-- a call that was refused is one more refused, and one that was done one more of its kind
abbrev pub with_call : {A : Type 0} → Call → Result A Refusal → Tally → Tally
with_call call (Err e) t = record { read = t.read; written = t.written; set = t.set; refused = more t.refused }
with_call Read (Ok x) t = record { read = more t.read; written = t.written; set = t.set; refused = t.refused }
with_call Write (Ok x) t = record { read = t.read; written = more t.written; set = t.set; refused = t.refused }
with_call Set (Ok x) t = record { read = t.read; written = t.written; set = more t.set; refused = t.refused }

-- a call is counted once, while the counts have room
abbrev pub CountedOnce : Tally → Tally → Type 0
CountedOnce before after = all before + 1 < 2 ^ 32 → all after ≡ all before + 1
