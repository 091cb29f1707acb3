use Rattle.decision_graph.proofs.Deadlines.{no_worse}
use Rattle.decision_graph.proofs.laws.a_later_deadline_is_no_worse.Goals as goal

pub returns : goal.returns
returns c = no_worse
