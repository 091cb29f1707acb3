use Rattle.plan_model.proofs.Common.{◌≡◌, take}
use Rattle.plan_model.proofs.network.Network.copied_links.Given as goal

abbrev pub invariant-loop-list : goal.invariant-loop-list
invariant-loop-list l = l.links ≡ take l.list-index l.lists
