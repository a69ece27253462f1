-- The closing line. Assumes nothing.
use Rattle.std.specs.Prelude.{ℕ, List, ◌++◌, codes}
use Rattle.std.specs.Fmt.{decimal}
use Rattle.dryer.specs.declared.tally.Tally.{Tally}
use Rattle.dryer.specs.Tally.{all}

-- the calls that were done, by what they did
abbrev pub done_text : Tally → List ℕ
done_text t = decimal t.read ++ (codes " read, " ++ (decimal t.written ++ (codes " written, " ++ (decimal t.set ++ codes " set"))))

-- all calls, those that were done, and those that were refused
abbrev pub total_text : Tally → List ℕ
total_text t = decimal (all t) ++ (codes " calls: " ++ (done_text t ++ (codes ", " ++ (decimal t.refused ++ codes " refused"))))
