-- From what a scan promises to a best strategy.
use Rattle.std.proofs.Common.{rules}
use Rattle.decision_graph.proofs.Common.{◌≡◌, ◌≢◌, List, Some, ◌∙◌, MatchOption-at_some, Leg, Query, NetworkModel, Tree, ExpandedGraph, Scoring, FollowsRules, arith, IsByRules, IsBestBy}
use Rattle.decision_graph.proofs.Common.{IsNoneSafe, IsExpandedBy, HasSteadyChoice}
use Rattle.plan_model.specs.{declared.model.ConnectionId.ConnectionId, Order.IsScanOrder}
use Rattle.meat_scan.specs.{ScanResult.{ScanResult, chosen_by, leg_choice}, Solves.{Solves, IsStartAnswer}}
use Rattle.leg_extract.specs.Extracted.{IsExtracted}

-- the graph of the choices of a scan, from its start leg on
abbrev pub IsOfStart : {V : Type 0} → NetworkModel → Query → ScanResult V → ExpandedGraph → Type 0
IsOfStart {V} n q found graph = (start : V × Leg) × (found.start ≡ Some start) × IsExtracted n q found start.1 graph

module _ {V : Type 0} (scoring : Scoring V)
    (n : NetworkModel) (q : Query) (found : ScanResult V) where
  -- the strategy of the start is a best one
  best_strategy : (start : V × Leg) → q.source.0 ≢ q.target.0 → IsStartAnswer scoring n q found start → IsBestBy scoring n q (chosen_by n q found start.1) start.0
  best_strategy start differ answer = grind arith

  abbrev ByRules : Tree → V → Type 0
  ByRules = IsByRules scoring n q

  -- the graph that was extracted, with the bounds of the start
  pub expanded : Solves scoring found n q → (order : List ConnectionId) → IsScanOrder n order → FollowsRules scoring n q order found
      → (first : V × Leg) → Some first ≡ found.start → (graph : ExpandedGraph) → IsOfStart n q found graph → IsExpandedBy scoring n q graph first.0
  expanded solves order is_order rules first some graph (start, is, extracted) =
      let same : start ≡ first = let both = some ∙ is in cc in
      let answer = MatchOption-at_some (IsNoneSafe n q) (IsStartAnswer scoring n q found) start is solves.answers.begins in
      grind (arith, best_strategy)

-- it follows the choices of the scan, which are steady
pub steady_choice : {V : Type 0} (n : NetworkModel) (q : Query) (found : ScanResult V) (graph : ExpandedGraph) → IsOfStart n q found graph → HasSteadyChoice n q graph
steady_choice n q found graph (start, is, extracted) = record { choice = leg_choice found; steady = extracted.steady; follows = extracted.follows }
