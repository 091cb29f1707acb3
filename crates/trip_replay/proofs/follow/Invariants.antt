use Rattle.trip_replay.proofs.Common.{◌≡◌, ◌+◌, ◌≤◌, ◌<◌, drop, length, [], All, IfSome, count, by_place, pick_at, IsLegOf, unfold_plan, walk, tree_at, IsRidden, arrival_after, place_after}
use Rattle.trip_replay.proofs.follow.Given as goal

-- the walk goes on from the position, with the delays that remain and the rides so far behind
abbrev pub invariant-loop-delay : goal.invariant-loop-delay
invariant-loop-delay l = record {
  walk : walk l.network (unfold_plan l.graph l.network l.query) l.delays [] ≡ walk l.network
      (tree_at l.network l.query.target.0 (by_place l.network (pick_at l.graph.tables)) l.position) (drop l.delay-index l.delays) l.rides;
  next : IfSome l.position.next (λ leg. IsLegOf l.network leg × (length l.rides + l.position.remaining < count l.network));
  few : length l.rides + l.position.remaining ≤ count l.network;
  rides : All (IsRidden l.network) l.rides;
  place : l.position.place.0 ≡ place_after l.network l.query.source.0 l.rides;
  arrival : l.position.moment.0 ≡ arrival_after l.query.start.0 l.rides;
}
