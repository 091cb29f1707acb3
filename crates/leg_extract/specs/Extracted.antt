-- What the graph of a scan says.
use Rattle.std.specs.Prelude.{◌≡◌, ℕ, [], map, Some, All, ◌==◌, if◌then◌else◌}
use Rattle.plan_model.specs.{declared.model.{Leg.Leg, Query.Query}, Network.NetworkModel, Unfold.{end_of, arrival_of, outcomes_of}}
use Rattle.plan_graph.specs.{declared.{Ride.Ride, ExpandedGraph.ExpandedGraph}, Unfold.unfold_expanded, Ready.{IsReady, IsBusy, Stands}, Coherent.Follows}
use Rattle.plan_graph.specs.{Coherent.IsSteady, Walked.HasRideOf}
use Rattle.meat_scan.specs.ScanResult.{ScanResult, leg_choice, chosen_by}

-- one row for each outcome, by its arrival; none at the target
abbrev pub HasArrivals : NetworkModel → ℕ → Ride → Type 0
HasArrivals network target r =
    map (λ row. row.by.0) r.after
    ≡ (if end_of network r.leg == target then [] else map (λ o. arrival_of network r.leg o.delay) (outcomes_of network r.leg))

-- each leg that is in the unfolding has a ride, those that end at the target among them
abbrev pub HasEachRide : NetworkModel → Query → ExpandedGraph → Type 0
HasEachRide network query graph = (leg : Leg) → Stands leg (unfold_expanded graph network query) → HasRideOf graph.rides leg

-- the graph has the rides that the scan's choices reach from a start leg on, each with a row for each outcome;
-- it unfolds to the tree that they fix, and is ready to be pruned; what is chosen is kept up to its limit
pub record IsExtracted {V : Type 0} (network : NetworkModel) (query : Query) (found : ScanResult V) (start : Leg) (graph : ExpandedGraph) : Type 0 where
  pub starts : graph.start ≡ Some start
  pub unfolds : unfold_expanded graph network query ≡ chosen_by network query found start
  pub ready : IsReady network query graph
  pub busy : IsBusy network query graph
  pub whole : HasEachRide network query graph
  pub arrivals : All (HasArrivals network query.target.0) graph.rides
  pub follows : Follows network query.target.0 (leg_choice found) graph
  pub steady : IsSteady network query.target.0 (leg_choice found)
