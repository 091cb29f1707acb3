use Rattle.connections.proofs.Common.{arith, ints}
use Rattle.connections.proofs.origins.Origin.plus.Goals as goal

pub returns : goal.returns
returns c = omega (arith, ints)
