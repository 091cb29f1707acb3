-- What the mean as a score says of a graph is what its bounds say.
use Rattle.decision_graph.proofs.Common.{arith, Tree, Query, NetworkModel, ExpandedGraph, PlanGraph, IsBestBy, IsBest, IsExpandedBy, IsExpanded, IsPlannedBy, IsPlanned}
use Rattle.value_laws.specs.{declared.MeanSpan.MeanSpan, Means.mean_scoring}

best : (n : NetworkModel) (q : Query) (strategy : Tree) (value : MeanSpan) → IsBestBy mean_scoring n q strategy value → IsBest n q strategy value.0
best n q strategy value by = grind arith

pub expanded_means : (n : NetworkModel) (q : Query) (graph : ExpandedGraph) (value : MeanSpan)
    → IsExpandedBy mean_scoring n q graph value → IsExpanded n q graph value.0
expanded_means n q graph value by = grind arith

pub planned_means : (n : NetworkModel) (q : Query) (graph : PlanGraph) (value : MeanSpan)
    → IsPlannedBy mean_scoring n q graph value → IsPlanned n q graph value.0
planned_means n q graph value by = record { best = best n q _ value by.best; by_rules = by.by_rules; tidy = by.tidy }
