use Rattle.std.proofs.Common.{◌≡◌, ◌<◌, ap, ◌∙◌, rules}
use Rattle.bus.specs.Contract.{Cells}
use Rattle.towers.specs.Work.{after_both}
use Rattle.towers.proofs.Own.{second_alone, both_alone}
use Rattle.towers.proofs.work.work_both.Goals as goal

pub returns-clause-answer : goal.returns-clause-answer
returns-clause-answer g c =
    let byte : c.args.hour < 256 = search rules in
    let two = second_alone c.args.hour byte (g.B.Bus.cells c.args.bus.now) (g.B.Bus.cells c.work_hour-one.new.bus) c.work_hour-two.result (search rules) (search rules) in
    search rules

pub returns-clause-alone : goal.returns-clause-alone
returns-clause-alone g c =
    let byte : c.args.hour < 256 = search rules in
    let before = g.B.Bus.cells c.args.bus.now in
    let cells : g.B.Bus.cells c.work_hour-two.new.bus ≡ after_both c.args.hour before = search rules in
    λ t a mine. ap (λ (m : Cells). m a) cells ∙ both_alone c.args.hour byte before t a mine
