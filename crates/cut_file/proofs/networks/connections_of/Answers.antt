use Rattle.cut_file.proofs.Made.{connections-next}
use Rattle.cut_file.proofs.networks.connections_of.Goals as goal

pub loop-k-preserved : goal.loop-k-preserved
loop-k-preserved c = connections-next _ _ _ _ _ _ _ c.loop-k.invariant c.in_ok-push.ensures.ok c.connection_of.ensures
