use Rattle.connections.proofs.{Common.arith, SumLemmas.day_sum-none}
use Rattle.connections.proofs.counts.sum_day.Goals as goal

pub returns-then-not-may_run_on : goal.returns-then-not-may_run_on
returns-then-not-may_run_on c = grind (arith, day_sum-none)
