-- Which graphs by ride follow from their tree.
use Rattle.std.specs.Prelude.{◌≡◌, All}
use Rattle.interval_fixed.specs.Interval.{Interval}
use Rattle.plan_model.specs.{declared.model.Query.Query, Network.NetworkModel}
use Rattle.plan_graph.specs.{declared.{ExpandedGraph.ExpandedGraph, PlanGraph.PlanGraph}, Unfold.{unfold_expanded, unfold_plan}, Ready.{IsReady, IsBusy}}
use Rattle.leg_extract.specs.Extracted.{HasArrivals, HasEachRide}

-- its rides are those that are in its tree, each with a row for each outcome
pub record HasEveryRow (network : NetworkModel) (query : Query) (graph : ExpandedGraph) : Type 0 where
  pub ready : IsReady network query graph
  pub busy : IsBusy network query graph
  pub whole : HasEachRide network query graph
  pub arrivals : All (HasArrivals network query.target.0) graph.rides

-- a graph by ride and one by place are of one strategy: they unfold to one tree, from one start leg, with the same bounds
pub record IsOneStrategy (network : NetworkModel) (query : Query) (graph : ExpandedGraph) (plan : PlanGraph) (first second : Interval) : Type 0 where
  pub tree : unfold_expanded graph network query ≡ unfold_plan plan network query
  pub start : graph.start ≡ plan.start
  pub bounds : first ≡ second
