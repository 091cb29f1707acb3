use Rattle.connections.proofs.{Common.{◌-◌, arith}, SumLemmas.active-sum}
use Rattle.connections.proofs.counts.sum_trip.Goals as goal

pub returns : goal.returns
returns c = grind (arith, active-sum)
