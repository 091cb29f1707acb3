-- The mean of chances is at most certainty.
use Rattle.late_chance.proofs.Common.{arith, ℕ, ◌*◌, ◌≤◌, List, ◌∷◌, All, zero, suc, sum_by, mul-le-mul_left, mul-add, mul_comm, Outcome, Interval, weighted_hi, mean_of}
use Rattle.std.proofs.lemmas.List.Sums.{sum_by-cons}
use Rattle.plan_model.specs.DelayRows.{IsValidRow}
use Rattle.late_chance.proofs.chance.LateChanceScore.blend.Goals as goal

weighted_within : (most : ℕ) (row : List Outcome) (spans : List Interval) → All (λ s. s.hi ≤ most) spans → weighted_hi row spans ≤ most * sum_by (λ o. o.weight) row
weighted_within most (o ∷ row) (s ∷ spans) few =
    let first = mul-le-mul_left o.weight (few zero s (omega arith)) in
    let rest = weighted_within most row spans (λ k d less. few (suc k) d (omega arith)) in
    rw (sum_by-cons (λ o. o.weight) o row) (omega (arith, first, rest, mul-add most o.weight (sum_by (λ o. o.weight) row), mul_comm most o.weight))
weighted_within most _ spans few = omega arith

pub mean_within : (most : ℕ) (row : List Outcome) (spans : List Interval) → IsValidRow row → All (λ s. s.hi ≤ most) spans → (mean_of row spans).hi ≤ most
mean_within most row spans good few =
    let sums = rw good.total at (weighted_within most row spans few) in
    omega (arith, sums)

pub invariant_of-result : goal.invariant_of-result
invariant_of-result c = grind (arith, mean_within)
