use Rattle.connections.proofs.{Common.arith, SumLemmas.window-few}
use Rattle.connections.proofs.cuts.connections_within.Goals as goal

pub returns : goal.returns
returns c = grind (arith, window-few)
