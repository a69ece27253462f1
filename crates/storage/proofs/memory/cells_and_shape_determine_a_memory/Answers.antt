use Rattle.storage.proofs.Determined.{memory_determined}
use Rattle.storage.proofs.memory.cells_and_shape_determine_a_memory.Goals as goal

pub returns : goal.returns
returns c = memory_determined
