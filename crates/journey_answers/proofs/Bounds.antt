-- The bounds of a plan, and those that `check` finds of its graph.
use Rattle.journey_answers.proofs.Common.{◌≡◌, ℕ, ◌+◌, ◌/◌, ◌≤◌, arith, Option, List, [], ◌∷◌, refl, ap, Outcome, Query, NetworkModel, to_of, arr_of, outcomes, nanos_per_second, Tree, Done, Ride}
use Rattle.journey_answers.proofs.Common.{Stuck, Kids, Nil, Kid, IsSafe, AreSafe, IsSafeFor}
use Rattle.interval_fixed.specs.Interval.{Interval, weighted_lo, weighted_hi}
use Rattle.plan_model.specs.Expected.{arrival}
use Rattle.value_laws.specs.Spans.{rounded_up, sum_up, rounded_down, sum_down}
use Rattle.graph_score.specs.Scores.{span_of, spans_of}
use Rattle.decision_graph.specs.GraphValues.{IsBest}

module _ (n : NetworkModel) (target : ℕ) (by : Option ℕ) where
  -- the bounds of a tree are its means, rounded ride by ride
  abbrev AreRounded : Tree → Type 0
  AreRounded tree = ((span_of n tree).hi ≡ rounded_up nanos_per_second arrival tree) × ((span_of n tree).lo ≡ rounded_down nanos_per_second arrival tree)

  abbrev AreSums : List Outcome → Kids → Type 0
  AreSums row kids =
      (weighted_hi row (spans_of n kids) ≡ sum_up nanos_per_second arrival kids) × (weighted_lo row (spans_of n kids) ≡ sum_down nanos_per_second arrival kids)

  ride : (i j : ℕ) (kids : Kids) → AreSums (outcomes n j) kids → AreRounded (Ride i j kids)
  ride i j kids sums = (ap (λ (u : ℕ). (u + 9999) / 10000) sums.0, ap (λ (l : ℕ). l / 10000) sums.1)

  mutual
    spans : (tree : Tree) (p x : ℕ) → IsSafe n target by tree p x → AreRounded tree
    spans (Done a) p x safe = (refl, refl)
    spans (Ride i j kids) p x safe = ride i j kids (child_spans kids (outcomes n j) (to_of n j) (arr_of n j) safe.3)
    spans (Stuck q y) p x safe = absurd safe

    child_spans : (kids : Kids) (row : List Outcome) (p scheduled : ℕ) → AreSafe n target by kids row p scheduled → AreSums row kids
    child_spans Nil [] p scheduled safe = (refl, refl)
    child_spans (Kid w tree kids) (o ∷ row) p scheduled safe =
        let (hi, lo) = spans tree p (scheduled + o.delay) safe.1 in
        grind (arith, child_spans kids row p scheduled safe.2)
    child_spans _ _ p scheduled safe = absurd safe

safe_spans : (n : NetworkModel) (q : Query) (tree : Tree) → IsSafeFor n q tree
    → ((span_of n tree).hi ≡ rounded_up nanos_per_second arrival tree) × ((span_of n tree).lo ≡ rounded_down nanos_per_second arrival tree)
safe_spans n q tree safe = grind (arith, ride, child_spans)

pub bounds_of_graph : (n : NetworkModel) (q : Query) (tree : Tree) (bounds : Interval) → IsBest n q tree bounds → (bounds.hi ≡ (span_of n tree).hi) × (bounds.lo ≤ (span_of n tree).lo)
bounds_of_graph n q tree bounds best = grind (arith, safe_spans)
