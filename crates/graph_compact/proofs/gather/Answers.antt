use Rattle.graph_compact.proofs.{Common.{arith, slice_index_or, common_steps, get_or-map}, Lists.gather_step}
use Rattle.graph_compact.proofs.gather.Goals as goal

pub loop-ride-preserved : goal.loop-ride-preserved
loop-ride-preserved c = grind (arith, slice_index_or, get_or-map, common_steps, gather_step)
