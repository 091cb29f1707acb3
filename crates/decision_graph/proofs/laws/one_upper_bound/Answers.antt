use Rattle.decision_graph.proofs.Deadlines.{one_upper}
use Rattle.decision_graph.proofs.laws.one_upper_bound.Goals as goal

pub returns : goal.returns
returns c = one_upper
