use Rattle.graph_score.proofs.{Common.arith, GraphLegs.{start_fits, start_exits}, Trees.unfold-start}
use Rattle.graph_score.proofs.outlook_by_legs.Goals as goal

pub returns : goal.returns
returns c = grind (arith, start_fits, unfold-start, start_exits)
