-- The line of a setting. Assumes nothing.
use Rattle.std.specs.Prelude.{ℕ, List, [], ◌++◌, codes, Some, Ok, Err, Option, Result}
use Rattle.std.specs.Fmt.{◌++?◌}
use Rattle.bus.specs.declared.refusal.Refusal.{Refusal}
use Rattle.bus.specs.Text.{refusal_text}
use Rattle.dryer.specs.declared.tally.Call.TheVariants.{Set}
use Rattle.report.specs.declared.setting.Setting.{Setting}
use Rattle.report.specs.Words.{lead}

-- nothing where the setting was done, else a colon and why it was refused
abbrev pub refusal_part : Result (Unit {0}) Refusal → List ℕ
refusal_part (Ok done) = []
refusal_part (Err refusal) = codes ": " ++ refusal_text refusal

-- what was to be set, as `text` has it, and why it was refused; it says nothing where `text` does not
abbrev pub setting_text : {T : Type 0} → (T → Option (List ℕ)) → Setting T → Option (List ℕ)
setting_text text s = Some (lead Set) ++? text s.what ++? Some (refusal_part s.answer)
