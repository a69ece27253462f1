use Rattle.std.proofs.Common.{rules}
use Rattle.bus.specs.Address.{at}
use Rattle.bus.proofs.Addresses.{same_number}
use Rattle.bus.proofs.address.Address.wrapping.Goals as goal

pub returns-clause-address : goal.returns-clause-address
unfolding at
returns-clause-address c = search (rules, same_number)
