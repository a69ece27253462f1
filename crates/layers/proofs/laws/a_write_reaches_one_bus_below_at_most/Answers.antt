use Rattle.layers.proofs.Below.{write_reaches}
use Rattle.layers.proofs.laws.a_write_reaches_one_bus_below_at_most.Goals as goal

pub returns : goal.returns
returns c = write_reaches
