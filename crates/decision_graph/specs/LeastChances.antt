-- The decision graph with the least chance of being late.
use Rattle.std.specs.Prelude.{◌≡◌, ◌≢◌, ℕ}
use Rattle.interval_fixed.specs.Interval.{Interval}
use Rattle.plan_model.specs.{declared.model.Query.Query, Network.NetworkModel}
use Rattle.plan_graph.specs.{declared.PlanGraph.PlanGraph, Unfold.unfold_plan}
use Rattle.meat_scan.specs.Rules.{IsByRules}
use Rattle.late_chance.specs.{Chances.{promised, chance_scoring}, LaterGraphs.later_graph, Punctual.{IsPunctual, shift_for, seen_for, asked_for}}

-- the graph has the least chance to arrive after the moment that represents a promise; it and its chance are those that the rules of the
-- scan keep, or, if source and target are one place, the chance is that of having arrived
pub record IsLeastChance (network : NetworkModel) (query : Query) (graph : PlanGraph) (chance : Interval) : Type 0 where
  pub punctual : IsPunctual network query promised graph chance
  pub by_rules : query.source.0 ≢ query.target.0
      → IsByRules chance_scoring network query (unfold_plan graph network query) chance
  pub at_once : query.source.0 ≡ query.target.0 → chance ≡ chance_scoring.arrived query.start.0

-- the graph is that of the network as it is seen for the promise, by the shift later
pub record IsSeenLater (network : NetworkModel) (query : Query) (promise : ℕ) (graph : PlanGraph) (chance : Interval) : Type 0 where
  pub seen : PlanGraph
  pub least : IsLeastChance (seen_for network query promise) (asked_for query promise) seen chance
  pub later : graph ≡ later_graph (shift_for promise) seen
