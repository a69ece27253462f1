-- A write to lent bytes, by the bytes. Assumes nothing.
use Rattle.std.specs.Prelude.{ℕ, ◌-◌, Bool, cond, ◌&&◌, List, length, is_ok, Err, Result, nat_le, slice_set}
use Rattle.bus.specs.declared.refusal.Refusal.{Refusal}
use Rattle.bus.specs.declared.refusal.Refusal.TheVariants.{OutOfRange}
use Rattle.bus.specs.Contract.{write_answer}
use Rattle.bus.specs.Extent.{fits}
use Rattle.storage.specs.Memory.{open_from}

-- bytes from the base on end below the last address
abbrev pub has_room : ℕ → List ℕ → Bool
has_room base bytes = is_ok (fits base (length bytes))

-- an address outside the bytes is refused as a silent cell is
abbrev pub lent_answer : ℕ → ℕ → List ℕ → ℕ → Result (Unit {0}) Refusal
lent_answer tag base bytes address = cond (has_room base bytes) (write_answer (open_from tag base bytes) address) (Err OutOfRange)

-- the byte at this address replaced, every other as it was
abbrev pub lent_after : ℕ → List ℕ → ℕ → ℕ → List ℕ
lent_after base bytes address byte = cond (has_room base bytes && nat_le base address) (slice_set bytes (address - base) byte) bytes
