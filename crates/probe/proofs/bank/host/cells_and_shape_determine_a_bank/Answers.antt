use Rattle.probe.proofs.Determined.{bank_determined}
use Rattle.probe.proofs.bank.host.cells_and_shape_determine_a_bank.Goals as goal

pub returns : goal.returns
returns c = bank_determined
