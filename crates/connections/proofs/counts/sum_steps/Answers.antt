use Rattle.connections.proofs.{Common.{◌-◌, arith}, SumLemmas.steps-sum}
use Rattle.connections.proofs.counts.sum_steps.Goals as goal

pub returns : goal.returns
returns c = grind (arith, steps-sum)
