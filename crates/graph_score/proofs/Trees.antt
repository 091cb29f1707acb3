-- A tree by rows that fit is safe exactly where the traveller cannot fail.
use Rattle.graph_score.proofs.Common.{◌≡◌, ◌≢◌, ℕ, zero, suc, ◌+◌, ◌-◌, ◌≤◌, List, [], ◌∷◌, Option, Some, None, All, arith, sym, subst, refl, inl, inr, ap, cases_lt, cases_eq, eq-eqb, ne_eqb}
use Rattle.graph_score.proofs.Common.{Leg, Outcome, Query, NetworkModel, count, to_of, arr_of, outcomes, Tree, Done, Ride, Stuck, Kids, Nil, Kid, height, height_of, IsSafe, AreSafe, IsBoardable}
use Rattle.graph_score.proofs.Common.{IsSafeFor, end_of, outcomes_of, kids_after, ride_or_stuck, unfold_after, by_place, limit_of-some, PlaceTable, PlanGraph, pick_at, rows_of_place, IsLegOf}
use Rattle.graph_score.proofs.Common.{IsFitRow, IsFitStart, unfold_plan, Fails, FailsIn, AreFitRows, ride_by_rows, rows_of_place-by, row_of_pick}

mutual
  -- who is safe cannot fail
  cannot_fail : (n : NetworkModel) (q : Query) (tree : Tree) (p x : ℕ) → IsSafe n q.target.0 (Some q.deadline.0) tree p x → (r y : ℕ) → Fails q tree r y → ⊥
  cannot_fail n q (Done a) p x safe r y fails = omega (arith, safe.0, safe.2, fails.2)
  cannot_fail n q (Ride i j kids) p x safe r y fails = none_can_fail n q kids (outcomes n j) (to_of n j) (arr_of n j) safe.3 r y fails
  cannot_fail n q (Stuck place moment) p x safe r y fails = absurd safe

  none_can_fail : (n : NetworkModel) (q : Query) (kids : Kids) (row : List Outcome) (p arrival : ℕ) → AreSafe n q.target.0 (Some q.deadline.0) kids row p arrival → (r y : ℕ) → FailsIn q kids r y → ⊥
  none_can_fail n q Nil row p arrival safe r y fails = absurd fails
  none_can_fail n q (Kid w tree kids) [] p arrival safe r y fails = absurd safe
  none_can_fail n q (Kid w tree kids) (o ∷ row) p arrival safe r y (inl here) = cannot_fail n q tree p (arrival + o.delay) safe.1 r y here
  none_can_fail n q (Kid w tree kids) (o ∷ row) p arrival safe r y (inr there) = none_can_fail n q kids row p arrival safe.2 r y there

pub safe_never_fails : (n : NetworkModel) (q : Query) (tree : Tree) → IsSafeFor n q tree → (r y : ℕ) → Fails q tree r y → ⊥
safe_never_fails n q tree safe r y fails = grind (arith, none_can_fail)

-- the row whose leg is taken
pub taken_row : (n : NetworkModel) (tables : List PlaceTable) → AreFitRows n tables → (p x : ℕ) (leg : Leg) → pick_at tables p x ≡ Some leg → IsLegOf n leg × IsBoardable n p x leg.enter.0
taken_row n tables fit p x leg is =
    let (row, fits, soon, same) = row_of_pick (IsFitRow n p) (rows_of_place tables p) x leg
    (rows_of_place-by (λ p rows. All (IsFitRow n p) rows) tables p (λ k d within. absurd (omega (arith, within))) fit) is in
    grind (arith, limit_of-some)

module _ (n : NetworkModel) (q : Query) (tables : List PlaceTable) (fit : AreFitRows n tables) where
  -- what is done after a leg
  abbrev pub next_after : ℕ → Leg → ℕ → Tree
  next_after rides leg x = unfold_after n q.target.0 (by_place n (pick_at tables)) rides leg x

  abbrev SafeHere : Tree → ℕ → ℕ → Type 0
  SafeHere tree p x = IsSafe n q.target.0 (Some q.deadline.0) tree p x

  -- the traveller cannot fail
  abbrev pub Never : Tree → Type 0
  Never tree = (r y : ℕ) → Fails q tree r y → ⊥

  -- at the target
  pub after-there : (rides : ℕ) (leg : Leg) (x : ℕ) → end_of n leg ≡ q.target.0 → next_after rides leg x ≡ Done x
  after-there rides leg x there = grind (arith, eq-eqb)

  -- where no leg is taken
  pub after-stuck : (rides : ℕ) (leg : Leg) (x : ℕ) → end_of n leg ≢ q.target.0 → pick_at tables (end_of n leg) x ≡ None → next_after rides leg x ≡ Stuck (end_of n leg) x
  after-stuck rides leg x away none = grind (arith, ne_eqb)

  -- where one is taken, and no more rides may follow
  after-over : (leg : Leg) (x : ℕ) → end_of n leg ≢ q.target.0 → next_after zero leg x ≡ Stuck (end_of n leg) x
  after-over leg x away = rw (ne_eqb (end_of n leg) q.target.0 away) refl

  -- where one is taken
  pub after-ride : (rides : ℕ) (leg : Leg) (x : ℕ) (next : Leg) → end_of n leg ≢ q.target.0 → pick_at tables (end_of n leg) x ≡ Some next
      → next_after (suc rides) leg x ≡ ride_by_rows n q tables rides next
  after-ride rides leg x next away some = rw (ne_eqb (end_of n leg) q.target.0 away) (ap (λ next. ride_or_stuck n (next_after rides) next (end_of n leg) x) some)

  in_time : (p x : ℕ) → p ≡ q.target.0 → Never (Done x) → SafeHere (Done x) p x
  in_time p x there never = grind (arith, cases_lt)

  children_safe : (next : ℕ → Tree) (p scheduled : ℕ) → ((x : ℕ) → Never (next x) → SafeHere (next x) p x) → (row : List Outcome)
      → ((r y : ℕ) → FailsIn q (kids_after next scheduled row) r y → ⊥) → AreSafe n q.target.0 (Some q.deadline.0) (kids_after next scheduled row) row p scheduled
  children_safe next p scheduled each [] never = tt
  children_safe next p scheduled each (o ∷ row) never = grind (arith, children_safe next p scheduled each row (λ r y fails. never r y (inr fails)))

  -- what holds of who has arrived, of who is stuck and of each ride, since it does of what is done after it, holds of what is done after each leg
  after_each : (P : ℕ → Leg → ℕ → Tree → Type 0) → ((rides : ℕ) (leg : Leg) (x : ℕ) → end_of n leg ≡ q.target.0 → P rides leg x (Done x))
      → ((rides : ℕ) (leg : Leg) (x : ℕ) → P rides leg x (Stuck (end_of n leg) x))
      → ((rides : ℕ) (leg : Leg) (x : ℕ) (next : Leg) → end_of n leg ≢ q.target.0 → pick_at tables (end_of n leg) x ≡ Some next
      → ((y : ℕ) → P rides next y (next_after rides next y)) → P (suc rides) leg x (ride_by_rows n q tables rides next))
      → (rides : ℕ) (leg : Leg) (x : ℕ) → P rides leg x (next_after rides leg x)
  after_each P there stuck ride zero leg x = grind (arith, cases_eq, after-there, after-over)
  after_each P there stuck ride (suc rides) leg x = elim (cases_eq (end_of n leg) q.target.0) [
    | inl here ↦ subst (P (suc rides) leg x) (sym (after-there (suc rides) leg x here)) (there (suc rides) leg x here)
    | inr away ↦ by_leg (λ next y. after_each P there stuck ride rides next y) away (pick_at tables (end_of n leg) x) refl
  ]
    where
      by_leg : ((next : Leg) (y : ℕ) → P rides next y (next_after rides next y)) → end_of n leg ≢ q.target.0 → (next : Option Leg)
          → pick_at tables (end_of n leg) x ≡ next
          → P (suc rides) leg x (next_after (suc rides) leg x)
      by_leg onward away None is = subst (P (suc rides) leg x) (sym (after-stuck (suc rides) leg x away is)) (stuck (suc rides) leg x)
      by_leg onward away (Some next) is = subst (P (suc rides) leg x) (sym (after-ride rides leg x next away is)) (ride rides leg x next away is (onward next))

  -- who cannot fail after a leg is safe
  safe_after : (rides : ℕ) (leg : Leg) (x : ℕ) → Never (next_after rides leg x) → SafeHere (next_after rides leg x) (end_of n leg) x
  safe_after = after_each (λ rides leg x tree. Never tree → SafeHere tree (end_of n leg) x) (λ rides leg x there never. in_time (end_of n leg) x there never)
      (λ rides leg x never. absurd (never (end_of n leg) x (refl, refl)))
      (λ rides leg x next away is onward never.
      let row = taken_row n tables fit (end_of n leg) x next is in
      (away, row.0, row.1, children_safe (next_after rides next) (end_of n next) (arr_of n next.exit.0) onward (outcomes_of n next) never))

  -- who cannot fail after the start leg is safe
  pub safe_ride : (rides : ℕ) (leg : Leg) → IsFitStart n q leg → Never (ride_by_rows n q tables rides leg) → IsSafeFor n q (ride_by_rows n q tables rides leg)
  safe_ride rides leg start never = grind (arith, children_safe, next_after, safe_after)

  height_children : (next : ℕ → Tree) (most : ℕ) → ((x : ℕ) → height (next x) ≤ most) → (scheduled : ℕ) (row : List Outcome) → height_of (kids_after next scheduled row) ≤ most
  height_children next most each scheduled [] = omega arith
  height_children next most each scheduled (o ∷ row) = omega (arith, each (scheduled + o.delay), height_children next most each scheduled row)

  height_ride : (rides : ℕ) (leg : Leg) → ((x : ℕ) → height (next_after rides leg x) ≤ rides) → height (ride_by_rows n q tables rides leg) ≤ suc rides
  height_ride rides leg each = let low = height_children (next_after rides leg) rides each (arr_of n leg.exit.0) (outcomes_of n leg) in omega (arith, low)

  -- as many rides are nested as may be at most
  height_after : (rides : ℕ) (leg : Leg) (x : ℕ) → height (next_after rides leg x) ≤ rides
  height_after = after_each (λ rides leg x tree. height tree ≤ rides) (λ rides leg x there. omega arith) (λ rides leg x. omega arith)
      (λ rides leg x next away is onward. height_ride rides next onward)

  pub height_ridden : (rides : ℕ) (leg : Leg) → height (ride_by_rows n q tables rides leg) ≤ suc rides
  height_ridden rides leg = height_ride rides leg (height_after rides leg)

-- by a graph one takes the start leg
pub unfold-start : (n : NetworkModel) (q : Query) (graph : PlanGraph) (leg : Leg) → q.source.0 ≢ q.target.0 → graph.start ≡ Some leg
    → unfold_plan graph n q ≡ ride_by_rows n q graph.tables (count n - 1) leg
unfold-start n q graph leg away is = grind (arith, ne_eqb)

-- and is stuck without one
pub unfold-none : (n : NetworkModel) (q : Query) (graph : PlanGraph) → q.source.0 ≢ q.target.0 → graph.start ≡ None → unfold_plan graph n q ≡ Stuck q.source.0 q.start.0
unfold-none n q graph away is = grind (arith, ne_eqb)

-- where source and target are one place one has arrived
pub unfold-there : (n : NetworkModel) (q : Query) (graph : PlanGraph) → q.source.0 ≡ q.target.0 → unfold_plan graph n q ≡ Done q.start.0
unfold-there n q graph there = rw (eq-eqb q.source.0 q.target.0 there) refl
