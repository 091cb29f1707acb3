use Rattle.graph_compact.proofs.Common.{at_drop_more, arith, common_steps}
use Rattle.graph_compact.proofs.put_all.Goals as goal

pub loop-row-preserved : goal.loop-row-preserved
loop-row-preserved c = grind (arith, common_steps, at_drop_more)
