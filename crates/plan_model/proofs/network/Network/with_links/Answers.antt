use Rattle.plan_model.proofs.{Common.arith, Links.{relinked, IsValid-relinked}}
use Rattle.plan_model.proofs.network.Network.with_links.Goals as goal

pub invariant_of-result : goal.invariant_of-result
invariant_of-result c = grind (arith, relinked, IsValid-relinked)
