-- The decision graph ride by ride, and with one table for each place.
use Rattle.std.specs.Prelude.{◌≢◌, ℕ, All, Option, None, []}
use Rattle.interval_fixed.specs.Interval.{Interval}
use Rattle.plan_model.specs.{declared.model.{Leg.Leg, Query.Query}, Network.NetworkModel, Tree.Tree, Strategy.IsSafeFor}
use Rattle.plan_graph.specs.{declared.{ExpandedGraph.ExpandedGraph, PlanGraph.PlanGraph}, Unfold.{unfold_expanded, unfold_plan}, Ready.{IsReady, IsBusy}}
use Rattle.plan_graph.specs.{Coherent.{IsSteady, Follows}, Tidy.IsTidy}
use Rattle.value_laws.specs.{Means.{mean_scoring, from_span}, ScoreLaws.Scoring}
use Rattle.meat_scan.specs.Rules.{IsByRules}
use Rattle.leg_extract.specs.Extracted.{HasArrivals, HasEachRide}
use Rattle.decision_graph.specs.GraphValues.{IsBestBy, IsBest}

-- the graph in which nothing is ridden
abbrev pub no_rides : ExpandedGraph
no_rides = record { start = None; rides = [] }

-- no strategy is safe for the query
abbrev pub IsNoneSafe : NetworkModel → Query → Type 0
IsNoneSafe network query = (tree : Tree) → IsSafeFor network query tree → ⊥

-- the graph unfolds to a best strategy, which is the one that the rules of the scan keep if source and target differ; it has a row for
-- each outcome, every row is picked, and its rides are those that are in the unfolding, each of them
pub record IsExpandedBy {V : Type 0} (scoring : Scoring V) (network : NetworkModel) (query : Query) (graph : ExpandedGraph) (value : V) : Type 0 where
  pub best : IsBestBy scoring network query (unfold_expanded graph network query) value
  pub by_rules : query.source.0 ≢ query.target.0 → IsByRules scoring network query (unfold_expanded graph network query) value
  pub ready : IsReady network query graph
  pub busy : IsBusy network query graph
  pub whole : HasEachRide network query graph
  pub arrivals : All (HasArrivals network query.target.0) graph.rides

-- the graph follows a choice by place and arrival that is kept up to each leg's limit
pub record HasSteadyChoice (network : NetworkModel) (query : Query) (graph : ExpandedGraph) : Type 0 where
  pub choice : ℕ → ℕ → Option Leg
  pub steady : IsSteady network query.target.0 choice
  pub follows : Follows network query.target.0 choice graph

-- the same of the bounds on the expected arrival
pub record IsExpanded (network : NetworkModel) (query : Query) (graph : ExpandedGraph) (bounds : Interval) : Type 0 where
  pub best : IsBest network query (unfold_expanded graph network query) bounds
  pub by_rules : query.source.0 ≢ query.target.0
      → IsByRules mean_scoring network query (unfold_expanded graph network query) (from_span bounds)
  pub ready : IsReady network query graph
  pub busy : IsBusy network query graph
  pub whole : HasEachRide network query graph
  pub arrivals : All (HasArrivals network query.target.0) graph.rides

-- the graph unfolds to a best strategy, which is the one that the rules of the scan keep if source and target differ, and every
-- row of it is picked somewhere on the way
pub record IsPlannedBy {V : Type 0} (scoring : Scoring V) (network : NetworkModel) (query : Query) (graph : PlanGraph) (value : V) : Type 0 where
  pub best : IsBestBy scoring network query (unfold_plan graph network query) value
  pub by_rules : query.source.0 ≢ query.target.0 → IsByRules scoring network query (unfold_plan graph network query) value
  pub tidy : IsTidy network query graph

-- the same of the bounds on the expected arrival
pub record IsPlanned (network : NetworkModel) (query : Query) (graph : PlanGraph) (bounds : Interval) : Type 0 where
  pub best : IsBest network query (unfold_plan graph network query) bounds
  pub by_rules : query.source.0 ≢ query.target.0
      → IsByRules mean_scoring network query (unfold_plan graph network query) (from_span bounds)
  pub tidy : IsTidy network query graph
