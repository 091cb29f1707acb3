use Rattle.lower_proof.proofs.Common.{arith, cases_lt}
use Rattle.lower_proof.proofs.walk.last_departure.Goals as goal

pub loop-i-preserved : goal.loop-i-preserved
loop-i-preserved c = grind (arith, cases_lt)
