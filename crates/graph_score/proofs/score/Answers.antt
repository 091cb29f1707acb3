use Rattle.graph_score.proofs.Common.{arith}
use Rattle.graph_score.proofs.score.Goals as goal

pub returns-in-Safe : goal.returns-in-Safe
returns-in-Safe c = grind arith
