use Rattle.run_laws.proofs.Plans.{one_expanded}
use Rattle.run_laws.proofs.graphs.one_expanded_plan.Goals as goal

pub returns : goal.returns
returns c = one_expanded
