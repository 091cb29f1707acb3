-- Bounds on a mean over the arrivals keep the laws, whatever is averaged. (The proof is here because the trait names it.)
use Rattle.std.proofs.{Common.{arith, inl, inr, ap}, Math.Nat.{mul-le-mul_left, mul-le-mul_right, mul_assoc}, lemmas.List.{length-map, Elements.All-map}}
use Rattle.std.specs.Prelude.{◌≡◌, ℕ, ◌+◌, ◌-◌, ◌*◌, ◌/◌, ◌^◌, ◌≤◌, ◌⊎◌, min, max, List, [], ◌∷◌, length, map, All, refl}
use Rattle.plan_model.specs.{declared.{model.Outcome.Outcome, units.TheConstants.WHOLE_WEIGHT}, Tree.{Tree, Kids, Nil, Kid, Done, Ride}}
use Rattle.plan_model.specs.{DelayRows.{IsValidRow, EachKid}, Expected.{BelowBy, CoversBy}}
use Rattle.interval_fixed.specs.Interval.{Interval, weighted, mean_of}
use Rattle.interval_fixed.proofs.{Enclosed.mean_gap_within, Sums.{mean_below, mean_covers}}
use Rattle.value_laws.specs.{ScoreLaws.{Scoring, ScoreLaws}, Spans.{rounded_up, sum_up, rounded_down, sum_down, span_scoring}}

-- the lesser of two is below what either is below
lesser_below : (a b p n : ℕ) → a * p ≤ n ⊎ b * p ≤ n → min a b * p ≤ n
lesser_below a b p n (inl own) =
    let lesser : min a b ≤ a = omega arith in
    omega (arith, mul-le-mul_right p lesser)
lesser_below a b p n (inr other) =
    let lesser : min a b ≤ b = omega arith in
    omega (arith, mul-le-mul_right p lesser)

-- values that are spans, of whatever leaf gives for the arrivals, in units of which there are scale in one
module _ {V : Type 0} (scale : ℕ) (leaf : ℕ → ℕ) (span : V → Interval) (value : Interval → V) (same : (s : Interval) → span (value s) ≡ s) where
  abbrev scoring : Scoring V
  scoring = span_scoring scale leaf span value

  at_value : (P : Interval → Type 0) (s : Interval) → P s → P (span (value s))
  at_value P s p = rw (same s) p

  -- what holds of each value and its child gives what follows for a bound of its span
  each_bound : (bound : Interval → ℕ) (P : V → Tree → Type 0) (Q : ℕ → Tree → Type 0) → ((v : V) (t : Tree) → P v t → Q (bound (span v)) t)
      → (row : List Outcome) (values : List V) (kids : Kids) → EachKid P row values kids → EachKid Q row (map bound (map span values)) kids
  each_bound bound P Q gives [] [] Nil each = each
  each_bound bound P Q gives (o ∷ row) (v ∷ values) (Kid w t kids) each = (each.0, gives v t each.1, each_bound bound P Q gives row values kids each.2)
  each_bound bound P Q gives _ _ _ each = absurd each

  blended_below : (row : List Outcome) (values : List V) (kids : Kids) (enter exit : ℕ) → EachKid scoring.below row values kids
      → BelowBy scale leaf (mean_of row (map span values)).lo (Ride enter exit kids)
  blended_below row values kids enter exit each =
      mean_below scale leaf row _ kids enter exit (each_bound (λ s. s.lo) scoring.below (BelowBy scale leaf) (λ v t is. is.0) row values kids each)

  -- the sum of lower bounds is at most that of the means
  lo_sum : (row : List Outcome) (values : List V) (kids : Kids) → EachKid scoring.below row values kids
      → weighted row (map (λ s. s.lo) (map span values)) ≤ sum_down scale leaf kids
  lo_sum [] [] Nil each = omega arith
  lo_sum (o ∷ row) (v ∷ values) (Kid w t kids) each =
      rw each.0 (omega (arith, mul-le-mul_left o.weight each.1.1, lo_sum row values kids each.2))
  lo_sum _ _ _ each = absurd each

  blended_down : (row : List Outcome) (values : List V) (kids : Kids) (enter exit : ℕ) → EachKid scoring.below row values kids
      → (mean_of row (map span values)).lo ≤ rounded_down scale leaf (Ride enter exit kids)
  blended_down row values kids enter exit each = omega (arith, lo_sum row values kids each)

  -- the sum of upper bounds is at most that of the means, where each is at most its own
  up_sum : (row : List Outcome) (values : List V) (kids : Kids) → EachKid scoring.below row values kids
      → weighted row (map (λ s. s.hi) (map span values)) ≤ sum_up scale leaf kids
  up_sum [] [] Nil each = omega arith
  up_sum (o ∷ row) (v ∷ values) (Kid w t kids) each =
      rw each.0 (omega (arith, mul-le-mul_left o.weight each.1.2, up_sum row values kids each.2))
  up_sum _ _ _ each = absurd each

  blended_least : (row : List Outcome) (values : List V) (kids : Kids) (enter exit : ℕ) → EachKid scoring.below row values kids
      → (mean_of row (map span values)).hi ≤ rounded_up scale leaf (Ride enter exit kids)
  blended_least row values kids enter exit each = omega (arith, up_sum row values kids each)

  blended_covers : (row : List Outcome) (values : List V) (kids : Kids) (enter exit : ℕ) → EachKid scoring.covers row values kids
      → CoversBy scale leaf (mean_of row (map span values)).hi (Ride enter exit kids)
  blended_covers row values kids enter exit each =
      mean_covers scale leaf row _ kids enter exit (each_bound (λ s. s.hi) scoring.covers (CoversBy scale leaf) (λ v t is. is.0) row values kids each)

  -- the sum of upper bounds is that of the means
  hi_sum : (row : List Outcome) (values : List V) (kids : Kids) → EachKid scoring.covers row values kids
      → weighted row (map (λ s. s.hi) (map span values)) ≡ sum_up scale leaf kids
  hi_sum [] [] Nil each = refl
  hi_sum (o ∷ row) (v ∷ values) (Kid w t kids) each = rw (each.0, each.1.1, hi_sum row values kids each.2) refl
  hi_sum _ _ _ each = absurd each

  blended_up : (row : List Outcome) (values : List V) (kids : Kids) (enter exit : ℕ) → EachKid scoring.covers row values kids
      → (mean_of row (map span values)).hi ≡ rounded_up scale leaf (Ride enter exit kids)
  blended_up row values kids enter exit each = ap (λ (u : ℕ). (u + (WHOLE_WEIGHT - 1)) / WHOLE_WEIGHT) (hi_sum row values kids each)

  blended_gap : (row : List Outcome) (values : List V) (most : ℕ) → IsValidRow row → length row ≡ length values
      → All (λ v. scoring.gap v ≤ most) values → (mean_of row (map span values)).hi - (mean_of row (map span values)).lo ≤ most + 1
  blended_gap row values most good as_many gaps =
      mean_gap_within row (map span values) most good (omega (arith, as_many, length-map values span)) (All-map (λ (s : Interval). s.hi - s.lo ≤ most) span values gaps)

  abbrev LowerBound : Tree → Interval → Type 0
  LowerBound tree s = BelowBy scale leaf s.lo tree × (s.lo ≤ rounded_down scale leaf tree) × (s.hi ≤ rounded_up scale leaf tree)

  abbrev UpperBound : Tree → Interval → Type 0
  UpperBound tree s = CoversBy scale leaf s.hi tree × (s.hi ≡ rounded_up scale leaf tree)

  abbrev lesser : V → V → Interval
  lesser a b = record { lo = min (span a).lo (span b).lo; hi = (span a).hi }

  lowered_below : (a b : V) (tree : Tree) → scoring.rank a ≤ scoring.rank b → scoring.below a tree
      ⊎ scoring.below b tree → scoring.below (scoring.lowered a b) tree
  lowered_below a b tree better (inl own) =
      at_value (LowerBound tree) (lesser a b) ((λ h tall. lesser_below (span a).lo (span b).lo (WHOLE_WEIGHT ^ h) _ (inl (own.0 h tall))), omega (arith, own.1), own.2)
  lowered_below a b tree better (inr other) =
      at_value (LowerBound tree) (lesser a b) ((λ h tall. lesser_below (span a).lo (span b).lo (WHOLE_WEIGHT ^ h) _ (inr (other.0 h tall))), omega (arith, other.1), omega (arith, other.2, better))

  abbrev exact : ℕ → Interval
  exact moment = record { lo = scale * leaf moment; hi = scale * leaf moment }

  pub span_laws : ScoreLaws scoring
  span_laws = record {
    arrived_below = λ moment. at_value (LowerBound (Done moment)) (exact moment) ((λ h tall. omega (arith, mul_assoc scale (leaf moment) (WHOLE_WEIGHT ^ h))), omega arith, omega arith);
    arrived_covers = λ moment. at_value (UpperBound (Done moment)) (exact moment) ((λ h tall. omega (arith, mul_assoc scale (leaf moment) (WHOLE_WEIGHT ^ h))), refl);
    arrived_gap = λ moment. at_value (λ s. s.hi - s.lo ≡ 0) (exact moment) (omega arith);
    blended_below = λ row values kids enter exit good each. at_value (LowerBound (Ride enter exit kids))
        (mean_of row (map span values)) (blended_below row values kids enter exit each, blended_down row values kids enter exit each, blended_least row values kids enter exit each);
    blended_covers = λ row values kids enter exit good each. at_value (UpperBound (Ride enter exit kids))
        (mean_of row (map span values)) (blended_covers row values kids enter exit each, blended_up row values kids enter exit each);
    blended_gap = λ row values most good as_many gaps. at_value (λ s. s.hi - s.lo ≤ most + 1) (mean_of row (map span values)) (blended_gap row values most good as_many gaps);
    lowered_below = lowered_below;
    lowered_covers = λ a b tree better covers. at_value (UpperBound tree) (lesser a b) covers;
    lowered_rank = λ a b. at_value (λ s. s.hi ≡ (span a).hi) (lesser a b) refl;
    lowered_gap = λ a b better. at_value (λ s. s.hi - s.lo ≤ max (scoring.gap a) (scoring.gap b)) (lesser a b) (omega arith);
  }
