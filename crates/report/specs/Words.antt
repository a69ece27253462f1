-- What the lines are made of. Assumes nothing.
use Rattle.std.specs.Prelude.{ℕ, ◌-◌, List, ◌++◌, replicate, codes, Ok, Err, Result}
use Rattle.std.specs.Fmt.{char_count, decimal}
use Rattle.bus.specs.declared.refusal.Refusal.{Refusal}
use Rattle.bus.specs.Text.{refusal_text}
use Rattle.dryer.specs.declared.plant.Readings.{Readings}
use Rattle.dryer.specs.declared.tally.Call.{Call}
use Rattle.dryer.specs.declared.tally.Call.TheVariants.{Read, Write, Set}

-- how a line begins: with what the call does
abbrev pub lead : Call → List ℕ
lead Read = codes "  read  "
lead Write = codes "  write "
lead Set = codes "  set   "

-- the byte, or why there is none
abbrev pub outcome : Result ℕ Refusal → List ℕ
outcome (Ok byte) = decimal byte
outcome (Err refusal) = refusal_text refusal

-- a text, and then spaces up to this many characters
abbrev pub column : ℕ → List ℕ → List ℕ
column width text = text ++ replicate (width - char_count text) 32

-- what the probes of a tower measure
abbrev pub readings_text : Readings → List ℕ
readings_text r = codes "moisture " ++ (decimal r.moisture ++ (codes ", temperature " ++ decimal r.temperature))
