-- The best of the scan at the latest moment of arrival is the least worst arrival.
use Rattle.std.proofs.{Common.{◌≡◌, ℕ, ◌<◌, ◌≤◌, Option, Some, None, MatchOption, IfSome, arith}, lemmas.Bool.cases_lt}
use Rattle.plan_model.specs.{declared.model.{Moment.Moment, Query.Query}, Network.{NetworkModel, IsValid}, Bounds.{last_moment, end_of_time}, Tree.Tree, Strategy.{IsSafeFor, Reaches, IsLeastWorst}}
use Rattle.plan_model.proofs.{Bounds.{before_last, after_LeastWorst, before_LeastWorst}, Laws.{reaches_from_safe, safe_from_reaches}}
use Rattle.value_laws.specs.{declared.WorstMoment.WorstMoment, Worsts.worst_scoring}
use Rattle.meat_scan.specs.Solves.{IsStartValue}

-- what is the best by a deadline is the best of all: what is not safe by it is worse
pub least_from_value : (n : NetworkModel) (q : Query) (value : WorstMoment) → IsStartValue worst_scoring n q value → IsLeastWorst n q.source.0 q.target.0 q.start.0 (Some value.0)
least_from_value n q value v = grind (arith, reaches_from_safe, cases_lt, safe_from_reaches)

module _ (n : NetworkModel) (v : IsValid n) (q : Query) (early : q.start.0 < end_of_time) (last : q.deadline.0 ≡ last_moment) where
  -- what always reaches the target does so by the last moment
  safe_from : (tree : Tree) → Reaches n q.source.0 q.target.0 q.start.0 tree → IsSafeFor n q tree
  safe_from tree reaches = safe_from_reaches n q.source.0 q.target.0 q.start.0 q.deadline.0 tree reaches (omega (arith, last, before_last n v q.source.0 q.target.0 q.start.0 tree reaches early))

  pub least_by_last : (result : Option Moment) → MatchOption result ((tree : Tree) → IsSafeFor n q tree → ⊥)
      (λ w. IsLeastWorst n q.source.0 q.target.0 q.start.0 (Some w)) → IsLeastWorst n q.source.0 q.target.0 q.start.0 result
  least_by_last None none = λ tree reaches. none tree (safe_from tree reaches)
  least_by_last (Some w) least = least

-- when the least worst arrival is, where there is one
module _ (n : NetworkModel) (v : IsValid n) (source target start : ℕ) (none : Type 0) where
  pub not_before : (result : Option Moment) → MatchOption result none (λ w. IsLeastWorst n source target start (Some w)) → IfSome result (λ w. start ≤ w.0)
  not_before None h = tt
  not_before (Some w) h = after_LeastWorst n v source target start w h

  pub not_late : (result : Option Moment) → start < end_of_time → MatchOption result none (λ w. IsLeastWorst n source target start (Some w)) → IfSome result (λ w. w.0 < end_of_time)
  not_late None early h = tt
  not_late (Some w) early h = before_LeastWorst n v source target start w h early
