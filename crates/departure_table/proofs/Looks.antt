-- What a choice at a moment says of all from then on.
use Rattle.departure_table.proofs.Common.{◌≡◌, ◌≢◌, ℕ, ◌-◌, ◌<◌, ◌≤◌, arith, Some, refl, sym, ap, ◌∙◌, subst, Leg, Query, NetworkModel, count, dep_of, arr_of, Tree, Done, Ride, Stuck, Kids}
use Rattle.departure_table.proofs.Common.{IsLeg, Moment, MeanSpan, DepartureRow, IsGreatestMoment, row_of_choice, None, IsASecondAway, SafeAfter, IsNoneSafeFrom, BeginsWith, IsBestFrom}
use Rattle.departure_table.proofs.Common.{IsDepartureRow, SolvesArrivals}
use Rattle.std.proofs.lemmas.Option.{MatchOption-at_some, MatchOption-at_none}
use Rattle.plan_model.specs.Unfold.{by_place, unfold_after, kids_after, outcomes_of}
use Rattle.value_laws.specs.Means.{mean_scoring}
use Rattle.meat_scan.specs.{ScanResult.{ScanResult, choice_of, leg_choice, chosen_at}, Solves.{SolvesEach, IsSafeAt}}

module _ (n : NetworkModel) (q : Query) (found : ScanResult MeanSpan) (solves : SolvesArrivals found n q) (differ : q.source.0 ≢ q.target.0) (second : IsASecondAway n q.source.0) where
  abbrev here : ℕ
  here = q.source.0

  -- who may be later may be sooner
  earlier : (tree : Tree) (x y : ℕ) → x ≤ y → IsSafeAt n q here y tree → IsSafeAt n q here x tree
  earlier (Done a) x y le h = absurd (differ h.1)
  earlier (Ride i j kids) x y le h = grind (arith, here)
  earlier (Stuck p z) x y le h = absurd h

  -- a ride is as safe for who is later, up to its departure
  until : (i j : ℕ) (kids : Kids) (x y : ℕ) → y < dep_of n i → IsSafeAt n q here x (Ride i j kids) → IsSafeAt n q here y (Ride i j kids)
  until i j kids x y less h = grind (arith, here)

  none_at : (x : ℕ) → choice_of found here x ≡ None → (tree : Tree) → IsSafeAt n q here x tree → ⊥
  none_at x none = MatchOption-at_none _ _ none (solves here x differ)

  pub none_ahead : (next : ℕ) → choice_of found here (next - 1) ≡ None → (moment : ℕ) → next ≤ moment → IsNoneSafeFrom (SafeAfter n q) moment
  none_ahead next none moment ahead tree safe = none_at (next - 1) none tree (earlier tree (next - 1) (moment - 1) (omega arith) safe)

  module _ (x : ℕ) (choice : MeanSpan × Leg) (is : choice_of found here x ≡ Some choice) where
    abbrev chosen_children : Kids
    chosen_children = kids_after (unfold_after n q.target.0 (by_place n (leg_choice found)) (count n - 1) choice.1) (arr_of n choice.1.exit.0) (outcomes_of n choice.1)

    begins : chosen_at n q found here x ≡ Ride choice.1.enter.0 choice.1.exit.0 chosen_children
    begins = grind (arith, here)

    answer : SolvesEach mean_scoring n q found here x choice
    answer = MatchOption-at_some _ _ _ is (solves here x differ)

    abbrev enter : ℕ
    enter = choice.1.enter.0

    safe_ride : IsSafeAt n q here x (Ride enter choice.1.exit.0 chosen_children)
    safe_ride = subst (λ (t : Tree). IsSafeAt n q here x t) begins answer.safe

    covers_ride : mean_scoring.covers choice.0 (Ride enter choice.1.exit.0 chosen_children)
    covers_ride = subst (λ (t : Tree). mean_scoring.covers choice.0 t) begins answer.covers_chosen

    pub enters : enter < count n
    enters = safe_ride.1.enter

    pub looks_ahead : (row : DepartureRow) → row.leg ≡ choice.1 → row.bounds ≡ choice.0.0 → row.by.0 ≡ dep_of n enter
        → (x < row.by.0) × IsDepartureRow n row × ((moment : ℕ) → x < moment → moment ≤ row.by.0 → IsBestFrom n (SafeAfter n q) moment row)
    looks_ahead row leg bounds by =
        let one = second enter safe_ride.2.seconds safe_ride.1.enter safe_ride.2.way in
        let tree = Ride enter choice.1.exit.0 chosen_children in
        let begin : BeginsWith row.leg tree = rw leg (chosen_children, refl) in
        let same : IsLeg n row.leg.enter.0 row.leg.exit.0 = rw leg safe_ride.1 in (
          omega (arith, one, safe_ride.2.in_time, by),
          record { is_leg = same; departs = by ∙ ap (λ (l : Leg). dep_of n l.enter.0) (sym leg) },
          λ moment ahead within. record {
            below_safe = λ other safe. rw bounds (answer.below_safe other (earlier other x (moment - 1) (omega arith) safe)).0;
            least = λ other safe. rw bounds (answer.below_safe other (earlier other x (moment - 1) (omega arith) safe)).1;
            least_up = λ other safe. rw bounds (answer.below_safe other (earlier other x (moment - 1) (omega arith) safe)).2;
            covers_one = (
              tree,
              until enter choice.1.exit.0 chosen_children x (moment - 1) (omega (arith, ahead, within, by)) safe_ride,
              begin,
              rw bounds covers_ride.0,
              rw bounds covers_ride.1,
            );
            gap = rw bounds answer.gap_within;
          },
        )

  -- the departure of the last choice is the greatest moment, unless that is before the first one
  module _ (last : MeanSpan × Leg) (x : ℕ) (is : choice_of found here x ≡ Some last) (none_after : (arrival : ℕ) → x < arrival → choice_of found here arrival ≡ None) where
    ahead : (x < dep_of n last.1.enter.0) × IsDepartureRow n (row_of_choice n last)
        × ((moment : ℕ) → x < moment → moment ≤ dep_of n last.1.enter.0 → IsBestFrom n (SafeAfter n q) moment (row_of_choice n last))
    ahead = looks_ahead x last is (row_of_choice n last) refl refl refl

    none_past : (moment : ℕ) → dep_of n last.1.enter.0 < moment → IsNoneSafeFrom (SafeAfter n q) moment
    none_past moment past = none_at (moment - 1) (none_after (moment - 1) (omega (arith, past, ahead.0)))

    pub last_is_greatest : (first : ℕ) (by : Moment) → by.0 ≡ dep_of n last.1.enter.0 → first ≤ by.0 → IsGreatestMoment (SafeAfter n q) first (Some by)
    last_is_greatest first by departs within =
        let best = ahead.2 by.0 (omega (arith, ahead.0, departs)) (omega (arith, departs)) in
        (within, (best.covers_one.0, best.covers_one.1), λ moment later. none_past moment (omega (arith, later, departs)))

    pub none_is_greatest : (first : ℕ) (by : Moment) → by.0 ≡ dep_of n last.1.enter.0 → by.0 < first → IsGreatestMoment (SafeAfter n q) first None
    none_is_greatest first by departs past = λ moment later. none_past moment (omega (arith, later, departs, past))

  -- nor is there one without a choice
  pub no_greatest : ((arrival : ℕ) → choice_of found here arrival ≡ None) → (first : ℕ) → IsGreatestMoment (SafeAfter n q) first None
  no_greatest none first = λ moment later. none_at (moment - 1) (none (moment - 1))
