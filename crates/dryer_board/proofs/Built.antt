-- The cells of a new board.
use Rattle.std.proofs.Common.{◌≡◌, ℕ, List, refl, ap, ap₂, Bor, MutBor}
use Rattle.towers.specs.declared.tower.Tower.TheVariants.{One, Two}
use Rattle.towers.specs.Tower.{moisture_at}
use Rattle.layers.specs.Join.{joined}
use Rattle.layers.specs.Shift.{shifted}
use Rattle.probe.proofs.Banks.{new_cells}
use Rattle.dryer_board.specs.Board.{board_cells, first_tag, second_tag, second_distance, memory_at, new_board, new_board_cells}

pub built_cells : (memory : MutBor (List ℕ)) (image : Bor (List ℕ)) → board_cells (new_board memory image) ≡ new_board_cells memory.now image.now
built_cells memory image = ap₂ (joined memory_at) (ap₂ (joined (moisture_at Two)) (new_cells first_tag (moisture_at One) refl) (ap (shifted second_distance) (new_cells second_tag (moisture_at One) refl))) refl
