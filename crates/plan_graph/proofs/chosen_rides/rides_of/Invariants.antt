use Rattle.plan_graph.proofs.Common.{◌≡◌, ◌<◌, ◌++◌, map, AllByRecursion, count, ride_of_leg}
use Rattle.plan_graph.proofs.chosen_rides.rides_of.Given as goal

-- the rides so far, and those of the legs that remain
abbrev pub invariant-loop-leg : goal.invariant-loop-leg
invariant-loop-leg g l =
    let ride = ride_of_leg l.network l.query.target.0 (g.C.LegChoice.chosen l.choice l.network) in
    record {
      rides : l.rides ++ map ride l.leg-iterator ≡ map ride l.seen.keys;
      there : AllByRecursion (λ leg. leg.exit.0 < count l.network) l.leg-iterator;
    }
