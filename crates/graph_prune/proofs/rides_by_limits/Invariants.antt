use Rattle.graph_prune.proofs.Common.{◌≡◌, ◌++◌, drop, map, ride_by_limits}
use Rattle.graph_prune.proofs.rides_by_limits.Given as goal

-- the rides so far, and those that remain
abbrev pub invariant-loop-ride : goal.invariant-loop-ride
invariant-loop-ride l = l.all ++ map (ride_by_limits l.network) (drop l.ride-index l.rides) ≡ map (ride_by_limits l.network) l.rides
