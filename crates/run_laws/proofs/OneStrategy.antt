-- The strategy that the rules keep, and its value, follow from the network and the query.
use Rattle.run_laws.proofs.Common.{arith, ◌≡◌, ◌≢◌, List, Some, ap, cases_eq, Interval, ConnectionId, Leg, Query, NetworkModel, IsSafeFor, Tree, Done, unfolding_of, by_place, mean_scoring}
use Rattle.run_laws.proofs.{Common.{from_span, Kept, IsByRules, kept_after, kept_leg}, OneOrder.one_order}
use Rattle.value_laws.specs.ScoreLaws.{Scoring}
use Rattle.decision_graph.specs.GraphValues.{IsBest}

-- where source and target are one place, to have arrived is the one safe strategy
at_once : (n : NetworkModel) (q : Query) (tree : Tree) → q.source.0 ≡ q.target.0 → IsSafeFor n q tree → tree ≡ Done q.start.0
at_once n q tree same safe = grind arith

module _ {V : Type 0} (scoring : Scoring V) (n : NetworkModel) (q : Query) where
  abbrev kept : List ConnectionId → Kept V
  kept order = kept_after scoring n q order

  abbrev tree_of : List ConnectionId → Leg → Tree
  tree_of order start = unfolding_of n q (by_place n (kept_leg (kept order))) (Some start)

  abbrev ByRules : Tree → V → Type 0
  ByRules = IsByRules scoring n q

  one_by_rules : (s t : Tree) (v w : V) → ByRules s v → ByRules t w → (s ≡ t) × (v ≡ w)
  one_by_rules s t v w a b = grind (arith, one_order n a.order b.order a.is_order b.is_order)

  -- a safe strategy with its value, by the rules or at once
  pub record IsThe (strategy : Tree) (value : V) : Type 0 where
    pub safe : IsSafeFor n q strategy
    pub by_rules : q.source.0 ≢ q.target.0 → ByRules strategy value
    pub at_once : q.source.0 ≡ q.target.0 → value ≡ scoring.arrived q.start.0

  pub only_one : (s t : Tree) (v w : V) → IsThe s v → IsThe t w → (s ≡ t) × (v ≡ w)
  only_one s t v w a b = grind (arith, cases_eq, at_once, one_by_rules)

-- a best strategy that is by the rules
abbrev pub IsTheMean : NetworkModel → Query → Tree → Interval → Type 0
IsTheMean n q tree bounds = IsThe mean_scoring n q tree (from_span bounds)

pub the_best : (n : NetworkModel) (q : Query) (tree : Tree) (bounds : Interval) → IsBest n q tree bounds
    → (q.source.0 ≢ q.target.0 → IsByRules mean_scoring n q tree (from_span bounds)) → IsTheMean n q tree bounds
the_best n q tree bounds best ruled = record { safe = best.safe; by_rules = ruled; at_once = λ same. ap from_span (best.at_once same) }

pub one_best : (n : NetworkModel) (q : Query) (s t : Tree) (a b : Interval) → IsTheMean n q s a → IsTheMean n q t b → (s ≡ t) × (a ≡ b)
one_best n q s t a b best other = grind (arith, only_one)
