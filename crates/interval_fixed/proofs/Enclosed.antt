-- A mean of spans encloses the mean of what is within them, and is little wider than the widest.
use Rattle.std.proofs.{Common.{◌≡◌, ℕ, suc, ◌+◌, ◌-◌, ◌*◌, ◌≤◌, List, [], ◌∷◌, length, All, arith, sum_by, mul-le-mul_left, mul-add}, lemmas.List.Sums.sum_by-cons}
use Rattle.plan_model.specs.{declared.model.Outcome.Outcome, DelayRows.IsValidRow}
use Rattle.interval_fixed.specs.Interval.{Interval, weighted, weighted_lo, weighted_hi, mean_of, AreEnclosed, EnclosesMean}

sums_enclosed : (row : List Outcome) (spans : List Interval) (xs : List ℕ) → AreEnclosed spans xs
    → (weighted_lo row spans ≤ weighted row xs) × (weighted row xs ≤ weighted_hi row spans)
sums_enclosed [] spans xs within = (omega arith, omega arith)
sums_enclosed (o ∷ row) [] [] within = (omega arith, omega arith)
sums_enclosed (o ∷ row) (span ∷ spans) (x ∷ xs) within =
    grind (arith, mul-le-mul_left, sums_enclosed row spans xs within.2)
sums_enclosed _ _ _ within = absurd within

pub mean_encloses : (row : List Outcome) (spans : List Interval) (xs : List ℕ) → AreEnclosed spans xs → EnclosesMean (mean_of row spans) row xs
mean_encloses row spans xs within =
    let sums = sums_enclosed row spans xs within in
    (omega (arith, sums.0), omega (arith, sums.1))

widened : (w lo hi most l u s : ℕ) → hi - lo ≤ most → u ≤ l + most * s → w * hi + u ≤ (w * lo + l) + most * (w + s)
widened w lo hi most l u s here rest =
    grind (arith, mul-le-mul_left, mul-add)

-- the sums are as far apart as the gap times the weights
gap_sum : (row : List Outcome) (spans : List Interval) (most : ℕ) → length row ≡ length spans → All (λ span. span.hi - span.lo ≤ most) spans
    → weighted_hi row spans ≤ weighted_lo row spans + most * sum_by (λ o. o.weight) row
gap_sum [] [] most same gaps = omega arith
gap_sum (o ∷ row) (span ∷ spans) most same gaps =
    rw (sum_by-cons (λ o. o.weight) o row)
    (widened o.weight span.lo span.hi most (weighted_lo row spans) (weighted_hi row spans) (sum_by (λ o. o.weight) row) (gaps 0 span (omega arith))
    (gap_sum row spans most (omega arith) (λ k d below. gaps (suc k) d (omega arith))))
gap_sum _ _ most same gaps = absurd (omega arith)

pub mean_gap_within : (row : List Outcome) (spans : List Interval) (most : ℕ) → IsValidRow row → length row ≡ length spans
    → All (λ span. span.hi - span.lo ≤ most) spans → (mean_of row spans).hi - (mean_of row spans).lo ≤ most + 1
mean_gap_within row spans most good same gaps =
    let sums = rw good.total at (gap_sum row spans most same gaps) in
    omega (arith, sums)
