use Rattle.bus.proofs.Meaning.{whole_meaning}
use Rattle.bus.proofs.contract.cells_are_the_whole_meaning.Goals as goal

pub returns : goal.returns
returns c = whole_meaning
