-- What choices unfold to in a network, and what the same choices unfold to in a view of it.
use Rattle.plan_model.proofs.Common.{◌≡◌, ℕ, zero, suc, ◌+◌, Bool, Option, Some, List, [], ◌∷◌, refl, arith, if◌then◌else◌, Outcome, Leg, NetworkModel, IsValid, arr_of, Tree, Done, IsLeg, end_of}
use Rattle.plan_model.proofs.{Common.{outcomes_of, kids_after, ride_of, ride_or_stuck, unfold_after, unfold_from, later_by, all_later_by, IsView}, Views.{leg_there, arrives, seen, same_outcomes}}

kids_after-later : (shift : ℕ) (f g : ℕ → Tree) (a : ℕ) (row : List Outcome) → ((y : ℕ) → g (y + shift) ≡ later_by shift (f y)) → kids_after g (a + shift) row ≡ all_later_by shift (kids_after f a row)
kids_after-later shift f g a [] same = refl
kids_after-later shift f g a (o ∷ row) same = grind (arith, kids_after-later shift f g a row same)

module _ (n m : NetworkModel) (shift first : ℕ) (view : IsView n m shift first) (valid : IsValid m) (target : ℕ) where
  pub same_end : (leg : Leg) → IsLeg n leg.enter.0 leg.exit.0 → end_of n leg ≡ end_of m leg
  same_end leg is = (seen n m shift first view valid leg.exit.0 (leg_there n m shift first view valid leg.enter.0 leg.exit.0 is).0.exit).to

  pub same_arrival : (leg : Leg) → IsLeg n leg.enter.0 leg.exit.0 → arr_of n leg.exit.0 + shift ≡ arr_of m leg.exit.0
  same_arrival leg is =
      let there = leg_there n m shift first view valid leg.enter.0 leg.exit.0 is in
      arrives n m shift first view valid leg.enter.0 leg.exit.0 there.0 there.1

  pub same_row : (leg : Leg) → IsLeg n leg.enter.0 leg.exit.0 → outcomes_of n leg ≡ outcomes_of m leg
  same_row leg is = same_outcomes n m shift first view valid leg.exit.0 (leg_there n m shift first view valid leg.enter.0 leg.exit.0 is).0.exit

  -- the ride of a leg, after which each goes on alike
  ride_later : (f g : Leg → ℕ → Tree) (leg : Leg) → IsLeg n leg.enter.0 leg.exit.0 → ((y : ℕ) → g leg (y + shift) ≡ later_by shift (f leg y)) → ride_of m g leg ≡ later_by shift (ride_of n f leg)
  ride_later f g leg is same = grind (arith, kids_after-later, same_arrival, same_row)

  module _ (f g : Leg → ℕ → Option Leg)
      (agree : (leg : Leg) (x : ℕ) → IsLeg n leg.enter.0 leg.exit.0 → g leg (x + shift) ≡ f leg x)
      (legs : (leg : Leg) (x : ℕ) (next : Leg) → f leg x ≡ Some next → IsLeg n next.enter.0 next.exit.0) where
    goes_later : (s t : Leg → ℕ → Tree) (p x : ℕ) (o : Option Leg) → ((next : Leg) → o ≡ Some next → IsLeg n next.enter.0 next.exit.0)
        → ((next : Leg) (y : ℕ) → IsLeg n next.enter.0 next.exit.0 → t next (y + shift) ≡ later_by shift (s next y))
        → ride_or_stuck m t o p (x + shift) ≡ later_by shift (ride_or_stuck n s o p x)
    goes_later s t p x o is same = grind (arith, ride_later)

    done_or : (b : Bool) (x : ℕ) (t u : Tree) → t ≡ later_by shift u → (if b then Done (x + shift) else t) ≡ later_by shift (if b then Done x else u)
    done_or b x t u same = grind arith

    pub unfold_after-later : (k : ℕ) (leg : Leg) (x : ℕ) → IsLeg n leg.enter.0 leg.exit.0 → unfold_after m target g k leg (x + shift) ≡ later_by shift (unfold_after n target f k leg x)
    unfold_after-later zero leg x is = grind (arith, same_end, done_or)
    unfold_after-later (suc k) leg x is = grind (arith, same_end, done_or, goes_later, unfold_after-later k)

    -- the same from a place, with one first leg
    pub unfold_from-later : (o : Option Leg) (p x : ℕ) → ((leg : Leg) → o ≡ Some leg → IsLeg n leg.enter.0 leg.exit.0)
        → unfold_from m target g o p (x + shift) ≡ later_by shift (unfold_from n target f o p x)
    unfold_from-later o p x begins = grind (arith, done_or, goes_later, unfold_after-later)
