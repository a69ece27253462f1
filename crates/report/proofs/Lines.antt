-- The lines of a tower's work are its text.
use Rattle.std.proofs.Common.{◌≡◌, ℕ, ◌∷◌, ◌++◌, List, Some, None, Ok, Err, Option, Result, refl, sym, ap, append-nil}
use Rattle.std.specs.Prelude.{codes}
use Rattle.bus.specs.declared.refusal.Refusal.{Refusal}
use Rattle.report.specs.declared.access.Access.TheVariants.{Read, Write}
use Rattle.report.specs.declared.tower.Work.{Work}
use Rattle.report.specs.Access.{access_text}
use Rattle.report.specs.Tower.{log_text, work_text, log_lines, work_lines, joined}

log_joined : (width address : ℕ) (moisture : Result ℕ Refusal) (noted : Option (Result (Unit {0}) Refusal)) (line : List ℕ) → joined (line ∷ log_lines width address moisture noted) ≡ line ++ log_text width address moisture noted
log_joined width address (Ok moisture) (Some answer) line = refl
log_joined width address (Ok moisture) None line = sym (append-nil line)
log_joined width address (Err refusal) noted line = sym (append-nil line)

pub lines_joined : (width : ℕ) (w : Work width) → joined (work_lines width w) ≡ work_text width w
lines_joined width w =
    ap (λ (rest : List ℕ). access_text width (codes "moisture") w.at.moisture (Read w.round.moisture) ++ (codes "\n" ++ (access_text width (codes "temperature") w.at.temperature (Read w.round.temperature) ++ (codes "\n" ++ rest))))
    (log_joined width w.log_at w.round.moisture w.noted (access_text width (codes "valve") w.at.valve (Write w.round.opening w.round.valve)))
