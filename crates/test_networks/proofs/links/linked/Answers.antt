use Rattle.std.proofs.Common.{[], ℕ, subst, arith, slice_index_or}
use Rattle.plan_model.specs.Network.{AreLinksInto}
use Rattle.test_networks.proofs.Pushed.{NamesFit-same}
use Rattle.test_networks.proofs.links.linked.Goals as goal

pub returns-clause-fit : goal.returns-clause-fit
returns-clause-fit c = λ names fit. grind (arith, NamesFit-same)

pub with_links-requires-clause-each : goal.with_links-requires-clause-each
with_links-requires-clause-each c = λ r less.
    subst (λ (places : ℕ). AreLinksInto places r (slice_index_or c.in_ok-lists.lists r [])) c.places.ensures.count (c.in_ok-lists.ensures.each r (omega (arith, less, c.places.ensures.count)))
