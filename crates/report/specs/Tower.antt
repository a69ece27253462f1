-- The lines of a tower's work in an hour. Assumes nothing.
use Rattle.std.specs.Prelude.{ℕ, List, [], ◌∷◌, ◌++◌, codes, Some, None, Ok, Err, Option, Result}
use Rattle.bus.specs.declared.refusal.Refusal.{Refusal}
use Rattle.report.specs.declared.access.Access.TheVariants.{Read, Write}
use Rattle.report.specs.declared.access.Line.{Line}
use Rattle.report.specs.declared.tower.Work.{Work}
use Rattle.report.specs.Access.{access_text}

-- the end of the line before, and the line of the log; nothing where the moisture was not read or not noted
abbrev pub log_text : ℕ → ℕ → Result ℕ Refusal → Option (Result (Unit {0}) Refusal) → List ℕ
log_text width address (Ok moisture) (Some answer) = codes "\n" ++ access_text width (codes "log") address (Write moisture answer)
log_text width address (Ok moisture) None = []
log_text width address (Err refusal) noted = []

-- a line for each probe that was read, one for the valve, and the one of the log
abbrev pub work_text : (width : ℕ) → Work width → List ℕ
work_text width w =
    access_text width (codes "moisture") w.at.moisture (Read w.round.moisture) ++ (codes "\n"
    ++ (access_text width (codes "temperature") w.at.temperature (Read w.round.temperature) ++ (codes "\n"
    ++ (access_text width (codes "valve") w.at.valve (Write w.round.opening w.round.valve)
    ++ log_text width w.log_at w.round.moisture w.noted))))

-- the texts of lines, of those that there are
abbrev pub line_texts : (width : ℕ) → List (Option (Line width)) → List (List ℕ)
line_texts width [] = []
line_texts width (Some line ∷ rest) = access_text width line.what.now line.address line.access ∷ line_texts width rest
line_texts width (None ∷ rest) = line_texts width rest

-- the line of the log, if there is one
abbrev pub log_lines : ℕ → ℕ → Result ℕ Refusal → Option (Result (Unit {0}) Refusal) → List (List ℕ)
log_lines width address (Ok moisture) (Some answer) = access_text width (codes "log") address (Write moisture answer) ∷ []
log_lines width address (Ok moisture) None = []
log_lines width address (Err refusal) noted = []

-- the same text by its lines
abbrev pub work_lines : (width : ℕ) → Work width → List (List ℕ)
work_lines width w =
    access_text width (codes "moisture") w.at.moisture (Read w.round.moisture)
    ∷ (access_text width (codes "temperature") w.at.temperature (Read w.round.temperature)
    ∷ (access_text width (codes "valve") w.at.valve (Write w.round.opening w.round.valve)
    ∷ log_lines width w.log_at w.round.moisture w.noted))

-- lines as one text
abbrev pub joined : List (List ℕ) → List ℕ
joined [] = []
joined (line ∷ []) = line
joined (line ∷ (next ∷ rest)) = line ++ (codes "\n" ++ joined (next ∷ rest))
