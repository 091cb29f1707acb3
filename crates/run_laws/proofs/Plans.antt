-- The graphs and the bounds of a query follow from the network and the query.
use Rattle.run_laws.proofs.Common.{arith, ◌≡◌, ◌≢◌, Option, MatchOption, Interval, Leg, Query, NetworkModel, ExpandedGraph, PlanGraph, unfold_expanded, unfold_plan, IsPlanned, HasEveryRow}
use Rattle.run_laws.proofs.{Common.IsOneStrategy, Agree.start_same, OneStrategy.{IsTheMean, the_best, one_best}, RideTables.one_reported, PlaceTables.one_tidy}
use Rattle.decision_graph.specs.Planned.{IsExpanded}

module _ (n : NetworkModel) (q : Query) where
  of_plan : (graph : PlanGraph) (bounds : Interval) → IsPlanned n q graph bounds → IsTheMean n q (unfold_plan graph n q) bounds
  of_plan graph bounds is = the_best n q (unfold_plan graph n q) bounds is.best is.by_rules

  of_expanded : (graph : ExpandedGraph) (bounds : Interval) → IsExpanded n q graph bounds → IsTheMean n q (unfold_expanded graph n q) bounds
  of_expanded graph bounds is = the_best n q (unfold_expanded graph n q) bounds is.best is.by_rules

  pub one_planned : (a b : PlanGraph) (s t : Interval) → IsPlanned n q a s → IsPlanned n q b t → (a ≡ b) × (s ≡ t)
  one_planned a b s t plan other = grind (arith, one_best, of_plan, one_tidy)

  reported : (graph : ExpandedGraph) (bounds : Interval) → IsExpanded n q graph bounds → HasEveryRow n q graph
  reported graph bounds is = record { ready = is.ready; busy = is.busy; whole = is.whole; arrivals = is.arrivals }

  pub one_expanded : (a b : ExpandedGraph) (s t : Interval) → IsExpanded n q a s → IsExpanded n q b t → (a ≡ b) × (s ≡ t)
  one_expanded a b s t plan other = grind (arith, one_best, of_expanded, one_reported, reported)

  by_start : {P Q : Leg → Type 0} {R : Type 0} (s t : Option Leg) → (q.source.0 ≢ q.target.0 → s ≡ t) → ((leg : Leg) → P leg → q.source.0 ≢ q.target.0) → ((leg : Leg) → Q leg → q.source.0 ≢ q.target.0)
      → (R → q.source.0 ≡ q.target.0) → MatchOption s (q.source.0 ≡ q.target.0) P → MatchOption t R Q → s ≡ t
  by_start s t same p d r none nothing = grind arith

  pub one_strategy : (a : ExpandedGraph) (b : PlanGraph) (s t : Interval) → IsExpanded n q a s → IsPlanned n q b t → IsOneStrategy n q a b s t
  one_strategy a b s t expanded plan = grind (arith, one_best, of_expanded, of_plan, by_start, start_same)
