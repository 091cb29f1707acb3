use Rattle.connections.proofs.Common.{arith, cases_eq}
use Rattle.connections.proofs.counts.most_ways.Goals as goal

pub loop-place-preserved : goal.loop-place-preserved
loop-place-preserved c = grind (arith, cases_eq)
