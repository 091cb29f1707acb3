use Rattle.run_laws.proofs.Plans.{one_planned}
use Rattle.run_laws.proofs.graphs.one_plan.Goals as goal

pub returns : goal.returns
returns c = one_planned
