use Rattle.departure_table.proofs.{Common.links_into, GateLists.lists_more}
use Rattle.departure_table.proofs.gates.links_for.Goals as goal

pub loop-place-preserved : goal.loop-place-preserved
loop-place-preserved c = lists_more (links_into c.args.network.now) c.loop-place.place _ _ _ c.loop-place.invariant c.in_ok-links_to.ensures.links c.in_ok-push.ensures.items
