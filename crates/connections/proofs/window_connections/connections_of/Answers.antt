use Rattle.connections.proofs.{Common.{slice_index_or, arith, length-list_below, get-list_below, connections_below, run_connections}, JoinLemmas.join-next}
use Rattle.connections.proofs.window_connections.connections_of.Goals as goal

pub index-requires : goal.index-requires
index-requires c = grind (arith, length-list_below, slice_index_or)

pub invariant_of-numbered : goal.invariant_of-numbered
invariant_of-numbered c = grind (arith, slice_index_or, get-list_below)

pub loop-r-preserved : goal.loop-r-preserved
unfolding connections_below run_connections
loop-r-preserved c = grind (arith, join-next)
