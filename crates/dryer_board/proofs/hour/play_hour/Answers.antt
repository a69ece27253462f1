use Rattle.std.proofs.Common.{ap, ◌∙◌, rules}
use Rattle.towers.specs.declared.tower.Tower.TheVariants.{One, Two}
use Rattle.towers.specs.Work.{after_both}
use Rattle.dryer_board.specs.Board.{board_cells, board_shape}
use Rattle.dryer_board.proofs.Apart.{silence}
use Rattle.dryer_board.proofs.hour.play_hour.Goals as goal

pub returns-clause-cells : goal.returns-clause-cells
returns-clause-cells c = c.work_both-towers.ensures.after ∙ ap (after_both c.args.number) (ap board_cells c.set_hour-set.ensures.board)

pub returns-clause-shape : goal.returns-clause-shape
returns-clause-shape c = c.work_both-towers.ensures.kept ∙ ap board_shape c.set_hour-set.ensures.board

pub returns-clause-one : goal.returns-clause-one
returns-clause-one c = silence One c.args.number c.args.hour.now c.args.board.now c.work_both-towers.result.one (board_cells c.set_hour-set.new.board) (board_cells c.work_both-towers.new.bus) (ap board_cells c.set_hour-set.ensures.board) (search rules) c.work_both-towers.ensures.alone

pub returns-clause-two : goal.returns-clause-two
returns-clause-two c = silence Two c.args.number c.args.hour.now c.args.board.now c.work_both-towers.result.two (board_cells c.set_hour-set.new.board) (board_cells c.work_both-towers.new.bus) (ap board_cells c.set_hour-set.ensures.board) (search rules) c.work_both-towers.ensures.alone
