use Rattle.decision_graph.proofs.Deadlines.{worst_kept}
use Rattle.decision_graph.proofs.laws.least_worst_is_kept.Goals as goal

pub returns : goal.returns
returns c = worst_kept
