use Rattle.std.proofs.Common.{◌≡◌, ap, ◌∙◌, rules}
use Rattle.dryer_board.specs.Board.{board_cells, new_board}
use Rattle.dryer_board.proofs.Built.{built_cells}
use Rattle.dryer_board.proofs.board.build.Goals as goal

pub returns-clause-cells : goal.returns-clause-cells
returns-clause-cells c =
    let board : c.new.result ≡ new_board c.args.memory c.args.image = search rules in
    ap board_cells board ∙ built_cells c.args.memory c.args.image
