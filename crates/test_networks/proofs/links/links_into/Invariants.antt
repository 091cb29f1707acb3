use Rattle.plan_model.specs.Network.{AreLinksInto}
use Rattle.test_networks.proofs.links.links_into.Given as goal

abbrev pub invariant-loop-link : goal.invariant-loop-link
invariant-loop-link l = AreLinksInto l.places l.to l.ways
