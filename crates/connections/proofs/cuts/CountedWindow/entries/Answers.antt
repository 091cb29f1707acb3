use Rattle.connections.proofs.{Common.arith, SumLemmas.entries-few}
use Rattle.connections.proofs.cuts.CountedWindow.entries.Goals as goal

pub returns : goal.returns
returns c = grind (arith, entries-few)
