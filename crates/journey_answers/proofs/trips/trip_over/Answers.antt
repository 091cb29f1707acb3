-- The fault of a trip, and where it is.
use Rattle.journey_answers.proofs.Common.{arith, arrivals, ◌≡◌, ℕ, List, None, Some, Result, Err, sym, subst, ◌≢◌, ◌<◌, ◌≤◌, length, Query, PlanGraph, IsAnswer, Replay, NoMemory, unread_input}
use Rattle.journey_answers.proofs.Common.{last_printable, HasSite, Problem, parts_of, last_start, places, replay_as, IsSafeTrip, trip_by, IsTripFault}
use Rattle.graph_text.specs.declared.Head.{Head}
use Rattle.trip_replay.specs.{declared.{ReplayFault.ReplayFault, Trace.Trace}, Rides.IsStuckAfter}
use Rattle.journey_answers.proofs.trips.trip_over.Goals as goal
use Rattle.trip_replay.specs.declared.ReplayFault.TheVariants as replay

-- a trip is stuck at a place with a name, at a moment that has a text
pub stuck_has_site : (p : Problem) (q : Query) → q.source.0 < length p.timetable.network.change → q.start.0 ≤ last_start
    → (fault : ReplayFault) → IsStuckAfter p.timetable.network q fault → HasSite (Some (parts_of p)) (replay_as fault)
stuck_has_site p q source early (replay.Stuck place moment) (rides, all, at, since) =
    let few : q.start.0 ≤ last_printable = omega (arith, early) in
    let inside : place.0 < length p.timetable.network.change = subst (λ (k : ℕ). k < length p.timetable.network.change) (sym at) (places p.timetable.network p.timetable.valid q.source.0 rides source all) in (
      subst (λ (k : ℕ). place.0 < k) (sym p.timetable.fit.places) inside,
      subst (λ (k : ℕ). k ≤ last_printable) (sym since) (arrivals p.timetable.network p.timetable.valid q.start.0 rides few all),
    )
stuck_has_site p q source early _ stuck = tt

answer_is : (fault : ReplayFault) (trip : Result Trace ReplayFault) → fault ≢ replay.NoMemory → IsAnswer (Err fault) trip → trip ≡ Err fault
answer_is fault trip other is = grind arith

module _ (p : Problem) (head : Head) (graph : PlanGraph) (late : List ℕ) where
  trip_stop : (fault : ReplayFault) → fault ≢ replay.NoMemory → IsAnswer (Err fault) (trip_by p head graph late) → IsSafeTrip p head graph (Err fault)
      → IsTripFault p late (Replay fault) head graph
  trip_stop fault other is safe = grind (arith, answer_is)

  -- the fault of a trip
  pub trip_fault : (fault : ReplayFault) → IsAnswer (Err fault) (trip_by p head graph late) → IsSafeTrip p head graph (Err fault)
      → replay_as fault ≢ NoMemory → IsTripFault p late (replay_as fault) head graph
  trip_fault fault is safe other = grind (arith, trip_stop)

-- a fault of a trip is not that a file cannot be read
pub replay_unread : (fault : ReplayFault) → unread_input (replay_as fault) ≡ None
replay_unread fault = grind arith

pub returns-in-Err : goal.returns-in-Err
returns-in-Err c = grind (arith, trip_fault, stuck_has_site, replay_unread)

pub invariant_of-trip-clause-arrival : goal.invariant_of-trip-clause-arrival
invariant_of-trip-clause-arrival c = grind (arith, arrivals)
