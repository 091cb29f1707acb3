-- Sums by weight, and their means, against the trees of a ride.
use Rattle.std.proofs.Common.{◌≡◌, ℕ, ◌+◌, ◌-◌, ◌*◌, ◌/◌, ◌^◌, ◌≤◌, List, [], ◌∷◌, arith, ap, ◌∙◌, mul-le-mul_left, mul-le-mul_right, mul_assoc, mul_comm, mul_left_comm, add-mul, mul-add}
use Rattle.plan_model.specs.{declared.model.Outcome.Outcome, Tree.{Kids, Ride, Nil, Kid, height, height_of}, DelayRows.EachKid, Expected.{weighted_by, weighted_kids, BelowBy, CoversBy}}
use Rattle.plan_model.proofs.Laws.{pow_down}
use Rattle.interval_fixed.specs.Interval.{weighted}

-- w times a, and s more, at the scale p
scaled_sum : (w a s p : ℕ) → (w * a + s) * p ≡ w * (a * p) + s * p
scaled_sum w a s p = add-mul (w * a) s p ∙ ap (λ x. x + s * p) (mul_assoc w a p)

-- k times w times n, and m more
times_sum : (k w n m : ℕ) → k * (w * n + m) ≡ w * (k * n) + k * m
times_sum k w n m = mul-add k (w * n) m ∙ ap (λ x. x + k * m) (mul_left_comm k w n)

-- a weighted sum is at most another, where its parts are
sum_step : (w x y s t : ℕ) → x ≤ y → s ≤ t → w * x + s ≤ w * y + t
sum_step w x y s t here rest = omega (arith, mul-le-mul_left w here)

-- a scaled sum rounded down is below, where the sum is
rounded_below : (l p n : ℕ) → l * p ≤ n → l / 10000 * (p * 10000) ≤ n
rounded_below l p n below =
    let split = mul_assoc (l / 10000) 10000 p in
    let turned = mul_comm p 10000 in
    let whole : l / 10000 * 10000 ≤ l = omega arith in
    let scaled = mul-le-mul_right p whole in
    rw turned (omega (arith, split, scaled, below))

rounded_covers : (u p n : ℕ) → n ≤ u * p → n ≤ (u + 9999) / 10000 * (p * 10000)
rounded_covers u p n covers =
    let split = mul_assoc ((u + 9999) / 10000) 10000 p in
    let turned = mul_comm p 10000 in
    let whole : u ≤ (u + 9999) / 10000 * 10000 = omega arith in
    let scaled = mul-le-mul_right p whole in
    rw turned (omega (arith, split, scaled, covers))

-- of whatever leaf gives for the arrivals, in units of which there are scale in one
module _ (scale : ℕ) (leaf : ℕ → ℕ) where
  -- how the sum of values compares with that of the children, as each value does with its child
  module _ (R : ℕ → ℕ → Type 0) (none : R 0 0) (more : (w x y s t : ℕ) → R x y → R s t → R (w * x + s) (w * y + t)) where
    children_sum : (row : List Outcome) (values : List ℕ) (kids : Kids) (h : ℕ) → height_of kids ≤ h
        → EachKid (λ v t. (k : ℕ) → height t ≤ k → R (v * 10000 ^ k) (scale * weighted_by leaf t k)) row values kids
        → R (weighted row values * 10000 ^ h) (scale * weighted_kids leaf kids h)
    children_sum [] [] Nil h tall each = let e : scale * 0 ≡ 0 = omega arith in let f : 0 * 10000 ^ h ≡ 0 = omega arith in rw (e, f) none
    children_sum (o ∷ row) (v ∷ values) (Kid w t kids) h tall each =
        rw (each.0, scaled_sum o.weight v (weighted row values) (10000 ^ h), times_sum scale o.weight (weighted_by leaf t h) (weighted_kids leaf kids h))
        (more o.weight (v * 10000 ^ h) (scale * weighted_by leaf t h) _ _ (each.1 h (omega arith)) (children_sum row values kids h (omega arith) each.2))
    children_sum _ _ _ h tall each = absurd each

  -- the mean rounded down is below the ride
  pub mean_below : (row : List Outcome) (values : List ℕ) (kids : Kids) (enter exit : ℕ) → EachKid (BelowBy scale leaf) row values kids
      → BelowBy scale leaf (weighted row values / 10000) (Ride enter exit kids)
  mean_below row values kids enter exit each h tall =
      rw (pow_down h (omega arith)) (rounded_below (weighted row values) (10000 ^ (h - 1)) _
      (children_sum (λ x y. x ≤ y) (omega arith) sum_step row values kids (h - 1) (omega arith) each))

  -- the mean rounded up covers the ride
  pub mean_covers : (row : List Outcome) (values : List ℕ) (kids : Kids) (enter exit : ℕ) → EachKid (CoversBy scale leaf) row values kids
      → CoversBy scale leaf ((weighted row values + 9999) / 10000) (Ride enter exit kids)
  mean_covers row values kids enter exit each h tall =
      rw (pow_down h (omega arith)) (rounded_covers (weighted row values) (10000 ^ (h - 1)) _
      (children_sum (λ x y. y ≤ x) (omega arith) (λ w x y s t. sum_step w y x t s) row values kids (h - 1) (omega arith) each))
