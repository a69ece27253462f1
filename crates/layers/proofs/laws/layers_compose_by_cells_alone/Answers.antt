use Rattle.layers.proofs.Compose.{layers_compose}
use Rattle.layers.proofs.laws.layers_compose_by_cells_alone.Goals as goal

pub returns : goal.returns
returns c = layers_compose
