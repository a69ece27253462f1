use Rattle.layers.proofs.Below.{layers_determined}
use Rattle.layers.proofs.laws.cells_and_shape_determine_a_layer.Goals as goal

pub returns : goal.returns
returns c = layers_determined
