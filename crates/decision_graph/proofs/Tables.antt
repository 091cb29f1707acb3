-- From the graph ride by ride to the one with one table for each place.
use Rattle.decision_graph.proofs.Common.{◌≡◌, Query, NetworkModel, ExpandedGraph, PlanGraph, unfold_expanded, unfold_plan, Scoring, IsExpandedBy, arith, IsPlannedBy}
use Rattle.plan_graph.specs.Tidy.{IsTidy}

-- the plan unfolds to the strategy of the graph
pub planned : {V : Type 0} (scoring : Scoring V)
    (n : NetworkModel) (q : Query) (graph pruned : ExpandedGraph) (plan : PlanGraph) (value : V) → IsExpandedBy scoring n q graph value
    → unfold_expanded pruned n q ≡ unfold_expanded graph n q → unfold_plan plan n q ≡ unfold_expanded pruned n q → IsTidy n q plan
    → IsPlannedBy scoring n q plan value
planned scoring n q graph pruned plan value expanded prunes compacts tidy = grind arith
