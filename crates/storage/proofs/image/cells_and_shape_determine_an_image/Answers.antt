use Rattle.storage.proofs.Determined.{image_determined}
use Rattle.storage.proofs.image.cells_and_shape_determine_an_image.Goals as goal

pub returns : goal.returns
returns c = image_determined
