-- What a ready graph picks.
use Rattle.graph_prune.proofs.Common.{◌≡◌, ◌≢◌, ℕ, List, Option, Some, Contains, All, sym, subst, ◌∙◌, ap, MatchOption, All-contains, Leg, Outcome, Query, NetworkModel, end_of, arrival_of, arith}
use Rattle.graph_prune.proofs.Common.{outcomes_of, GraphRow, Ride, ExpandedGraph, pick_row, pick_after, HasRisingRides, IsReady, IsReadyRide, IsReadyRow, IsLegOf, pick_in_time, ride_there}
use Rattle.graph_prune.proofs.{Common.IsKeptAfter, Limits.in_time_kept}

module _ (n : NetworkModel) (q : Query) (graph : ExpandedGraph) (ready : IsReady n q graph) where
  abbrev choice : Leg → ℕ → Option Leg
  choice = pick_after graph.rides

  pub ready_ride : (r : Ride) → Contains graph.rides r → IsReadyRide n q.target.0 r
  ready_ride r = All-contains (IsReadyRide n q.target.0) graph.rides r ready.rides

  -- it can be asked for its picks
  pub rising : HasRisingRides graph.rides
  rising = ready.rising

  -- what is picked after an outcome is kept
  pub kept_after : (leg : Leg) → IsKeptAfter n q.target.0 choice leg
  kept_after leg away o has next is =
      let x = arrival_of n leg o.delay in
      let r = ride_there graph.rides leg x next is in
      let good = ready_ride r.found r.has in
      let picks = subst (λ (l : Leg). end_of n l ≢ q.target.0 → (u : Outcome) → Contains (outcomes_of n l) u
      → pick_row r.found.after (arrival_of n l u.delay) ≡ pick_in_time n (end_of n l) r.found.after (arrival_of n l u.delay)) r.same_leg good.picks in
      let rows : All (IsReadyRow n (end_of n leg)) r.found.after = subst (λ (l : Leg). All (IsReadyRow n (end_of n l)) r.found.after) r.same_leg good.rows in
      let first = in_time_kept n (end_of n leg) r.found.after x next rows (sym (picks away o has) ∙ ap (λ (list : List GraphRow). pick_row list x) (sym r.same_rows) ∙ is) in
      grind arith

  pub start_can : (start : Leg) → graph.start ≡ Some start → (q.source.0 ≢ q.target.0) × IsLegOf n start
  start_can start starts = subst (λ (s : Option Leg). MatchOption s (q.source.0 ≡ q.target.0) (λ leg. (q.source.0 ≢ q.target.0) × IsLegOf n leg)) starts ready.starts
