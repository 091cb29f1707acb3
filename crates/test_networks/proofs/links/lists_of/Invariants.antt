use Rattle.std.proofs.Common.{◌≡◌, ◌<◌, ℕ, [], length, slice_index_or}
use Rattle.plan_model.specs.Network.{AreLinksInto}
use Rattle.test_networks.proofs.links.lists_of.Given as goal

abbrev pub invariant-loop-to : goal.invariant-loop-to
invariant-loop-to l = record {
  many : length l.lists ≡ l.to;
  each : (r : ℕ) → r < l.to → AreLinksInto l.places r (slice_index_or l.lists r []);
}
