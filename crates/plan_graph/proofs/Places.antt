-- From a placed leg to those that are chosen after it.
use Rattle.plan_graph.proofs.Common.{arith, ◌≡◌, ◌≢◌, ℕ, zero, suc, ◌+◌, List, [], ◌∷◌, Option, Some, Contains, sym, subst, refl, inl, inr, ne_eqb, Leg, Outcome, NetworkModel, arr_of, Tree}
use Rattle.plan_graph.proofs.Common.{end_of, arrival_of, outcomes_of, kids_after, ride_or_stuck, unfold_after, Stands, StandsIn, StandsSafely, Contains-nil, Contains-cons_cases}
use Rattle.plan_model.specs.Strategy.{IsBoardable, IsSafe, AreSafe}

-- the leg that is chosen after a leg that arrives at a moment is placed
pub record IsPlacedNext (n : NetworkModel) (target : ℕ) (by : Option ℕ) (choice : Leg → ℕ → Option Leg) (whole : Tree) (leg : Leg) (arrival : ℕ) : Type 0 where
  pub next : Leg
  pub is_chosen : choice leg arrival ≡ Some next
  pub boards : IsBoardable n (end_of n leg) arrival next.enter.0
  pub placed : StandsSafely n target by choice whole next

module _ (n : NetworkModel) (target : ℕ) (by : Option ℕ) (choice : Leg → ℕ → Option Leg) where
  pub safe_child : (f : ℕ → Tree) (row : List Outcome) (place scheduled : ℕ) → AreSafe n target by (kids_after f scheduled row) row place scheduled
      → (o : Outcome) → Contains row o → IsSafe n target by (f (scheduled + o.delay)) place (scheduled + o.delay)
  safe_child f [] place scheduled safe o has = absurd (Contains-nil o has)
  safe_child f (head ∷ row) place scheduled safe o has = elim (Contains-cons_cases head row o has) [
    | inl is ↦ subst (λ (u : Outcome). IsSafe n target by (f (scheduled + u.delay)) place (scheduled + u.delay)) is safe.1
    | inr more ↦ safe_child f row place scheduled safe.2 o more
  ]

  pub stands_child : (f : ℕ → Tree) (row : List Outcome) (scheduled : ℕ) (other : Leg) (o : Outcome) → Contains row o → Stands other (f (scheduled + o.delay))
      → StandsIn other (kids_after f scheduled row)
  stands_child f [] scheduled other o has stands = absurd (Contains-nil o has)
  stands_child f (head ∷ row) scheduled other o has stands = elim (Contains-cons_cases head row o has) [
    | inl is ↦ inl (subst (λ (u : Outcome). Stands other (f (scheduled + u.delay))) (sym is) stands)
    | inr more ↦ inr (stands_child f row scheduled other o more stands)
  ]

  next_by : (whole : Tree) (rides : ℕ) (leg : Leg) (arrival : ℕ) (found : Option Leg) → choice leg arrival ≡ found
      → IsSafe n target by (ride_or_stuck n (unfold_after n target choice rides) found (end_of n leg) arrival) (end_of n leg) arrival
      → ((other : Leg) → Stands other (ride_or_stuck n (unfold_after n target choice rides) found (end_of n leg) arrival) → Stands other whole)
      → IsPlacedNext n target by choice whole leg arrival
  next_by whole rides leg arrival found is safe stands = grind arith

  next_at : (whole : Tree) (rides : ℕ) (leg : Leg) (arrival : ℕ) → end_of n leg ≢ target
      → IsSafe n target by (unfold_after n target choice rides leg arrival) (end_of n leg) arrival
      → ((other : Leg) → Stands other (unfold_after n target choice rides leg arrival) → Stands other whole) → IsPlacedNext n target by choice whole leg arrival
  next_at whole zero leg arrival away safe stands = absurd (rw (ne_eqb (end_of n leg) target away) at safe)
  next_at whole (suc rides) leg arrival away safe stands = next_by whole rides leg arrival (choice leg arrival) refl
      (rw (ne_eqb (end_of n leg) target away) at safe) (λ other there. stands other (rw (ne_eqb (end_of n leg) target away) there))

  -- after each outcome of a placed leg a placed leg is chosen
  pub next_after : (whole : Tree) (leg : Leg) → StandsSafely n target by choice whole leg → end_of n leg ≢ target → (o : Outcome)
      → Contains (outcomes_of n leg) o → IsPlacedNext n target by choice whole leg (arrival_of n leg o.delay)
  next_after whole leg placed away o has =
      let f = unfold_after n target choice placed.rides leg in
      next_at whole placed.rides leg (arrival_of n leg o.delay) away
      (safe_child f (outcomes_of n leg) (end_of n leg) (arr_of n leg.exit.0) placed.safe o has)
      (λ other there. placed.below other (stands_child f (outcomes_of n leg) (arr_of n leg.exit.0) other o has there))
