-- Scores that are spans, and the mean over arrivals rounded ride by ride.
use Rattle.std.specs.Prelude.{ℕ, ◌+◌, ◌*◌, ◌/◌, ◌≡◌, ◌-◌, ◌≤◌, min, map}
use Rattle.plan_model.specs.{declared.units.TheConstants.WHOLE_WEIGHT, Tree.{Tree, Done, Ride, Stuck, Kids, Nil, Kid}, Expected.{BelowBy, CoversBy}}
use Rattle.interval_fixed.specs.Interval.{Interval, mean_of}
use Rattle.value_laws.specs.ScoreLaws.{Scoring}

abbrev mutual
  -- from the arrivals upward, each mean rounded up; of trees that are never stuck
  pub rounded_up : (scale : ℕ) → (ℕ → ℕ) → Tree → ℕ
  rounded_up scale leaf (Done moment) = scale * leaf moment
  rounded_up scale leaf (Ride i j kids) = (sum_up scale leaf kids + (WHOLE_WEIGHT - 1)) / WHOLE_WEIGHT
  rounded_up scale leaf (Stuck place moment) = 0

  -- the sum by weight
  pub sum_up : (scale : ℕ) → (ℕ → ℕ) → Kids → ℕ
  sum_up scale leaf Nil = 0
  sum_up scale leaf (Kid weight tree others) = weight * rounded_up scale leaf tree + sum_up scale leaf others

abbrev mutual
  -- the same, each mean rounded down
  pub rounded_down : (scale : ℕ) → (ℕ → ℕ) → Tree → ℕ
  rounded_down scale leaf (Done moment) = scale * leaf moment
  rounded_down scale leaf (Ride i j kids) = sum_down scale leaf kids / WHOLE_WEIGHT
  rounded_down scale leaf (Stuck place moment) = 0

  pub sum_down : (scale : ℕ) → (ℕ → ℕ) → Kids → ℕ
  sum_down scale leaf Nil = 0
  sum_down scale leaf (Kid weight tree others) = weight * rounded_down scale leaf tree + sum_down scale leaf others

-- bounds on the mean of what leaf gives for the arrivals, in units of which there are scale in one
abbrev pub span_scoring : {V : Type 0} → (scale : ℕ) → (ℕ → ℕ) → (V → Interval) → (Interval → V) → Scoring V
span_scoring scale leaf span value = record {
  -- lo is at most the mean, and at most that rounded down ride by ride; hi is at most that rounded up
  below = λ v tree. BelowBy scale leaf (span v).lo tree × ((span v).lo ≤ rounded_down scale leaf tree) × ((span v).hi ≤ rounded_up scale leaf tree);
  -- hi is at least the mean: it is that rounded up ride by ride
  covers = λ v tree. CoversBy scale leaf (span v).hi tree × ((span v).hi ≡ rounded_up scale leaf tree);
  gap = λ v. (span v).hi - (span v).lo;
  rank = λ v. (span v).hi;
  arrived = λ moment. value (record { lo = scale * leaf moment; hi = scale * leaf moment });
  blended = λ row values. value (mean_of row (map span values));
  lowered = λ a b. value (record { lo = min (span a).lo (span b).lo; hi = (span a).hi });
}
