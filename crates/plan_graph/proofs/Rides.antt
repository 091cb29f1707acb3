-- The rides of legs.
use Rattle.plan_graph.proofs.Common.{arith, ◌≡◌, ℕ, List, [], ◌∷◌, Some, AllPairs, Contains, inl, inr, ◌∙◌, ap, Leg, Ride, pick_after, rows_after, Precedes, Contains-nil, Contains-head}
use Rattle.plan_graph.proofs.{Common.{Contains-tail, Contains-cons_cases, AllPairs-head, AllPairs-tail}, Searches.{leg_test, rows_here, rows_further, precedes_itself}}

-- a ride of the leg, with its rows
pub record IsRideOf (rides : List Ride) (leg : Leg) : Type 0 where
  pub found : Ride
  pub has : Contains rides found
  pub same_leg : found.leg ≡ leg
  pub same_rows : rows_after rides leg ≡ found.after

-- where a leg is picked there is a ride
pub ride_there : (rides : List Ride) (leg : Leg) (x : ℕ) (next : Leg) → pick_after rides leg x ≡ Some next → IsRideOf rides leg
ride_there [] leg x next picks = absurd (cc)
ride_there (r ∷ rides) leg x next picks = grind (arith, Contains-head, leg_test, Contains-tail, ride_there rides leg x next)

-- where rides rise, the rows after a ride's leg are its own
pub rows_after-own : (rides : List Ride) → AllPairs (λ a b. Precedes a.leg b.leg) rides → (r : Ride) → Contains rides r → rows_after rides r.leg ≡ r.after
rows_after-own [] rising r has = absurd (Contains-nil r has)
rows_after-own (head ∷ rides) rising r has = elim (Contains-cons_cases head rides r has) [
  | inl is ↦ rows_here head rides r.leg (ap (λ (s : Ride). s.leg) is) ∙ ap (λ (s : Ride). s.after) is
  | inr more ↦
      let before = λ (a b : Ride). Precedes a.leg b.leg in
      rows_further head rides r.leg (precedes_itself head.leg r.leg (AllPairs-head before head rides rising r more))
      ∙ rows_after-own rides (AllPairs-tail before head rides rising) r more
]
