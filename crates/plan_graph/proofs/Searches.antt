-- Binary searches find what comes first in a list that rises.
use Rattle.plan_graph.proofs.Common.{◌≡◌, ℕ, ◌<◌, Bool, true, false, not, List, [], ◌∷◌, length, None, AllPairs, arith, sym, subst, refl, inl, inr, ◌∙◌, ap, ap₂, ◌==◌, ◌&&◌, slice_index_or}
use Rattle.plan_graph.proofs.Common.{AllWithin, IsPartitionedBy, IsPartitionPoint, cases_Bool, cases_lt, false≢true, nat_tests, found_at, found_nowhere, Leg, GraphRow, Ride, pick_row, rows_after}
use Rattle.plan_graph.proofs.Common.{is_ride_of, Precedes, leg_lt}

-- rides that rise are parted by a leg
leg_before : (a b : Leg) → Precedes a b → leg_lt a b ≡ true
leg_before a b before = grind (arith, nat_tests)

leg_precedes : (a b : Leg) → leg_lt a b ≡ true → Precedes a b
leg_precedes a b is = grind (arith, nat_tests)

pub precedes_trans : (a b c : Leg) → Precedes a b → Precedes b c → Precedes a c
precedes_trans a b c first second = grind arith

-- a leg does not come before itself
pub precedes_itself : (a b : Leg) → Precedes a b → a ≡ b → ⊥
precedes_itself a b h1 same = grind arith

pub rides_parted : (own rides : List Ride) (leg : Leg) → rides ≡ own → AllPairs (λ a b. Precedes a.leg b.leg) own
    → IsPartitionedBy (λ r. leg_lt r.leg leg) rides
rides_parted own rides leg same rises i j d before within is = let rise = rw (← same) at rises in elim (cases_lt i j) [
  | inl less ↦ leg_before (slice_index_or rides i d).leg leg
      (precedes_trans (slice_index_or rides i d).leg (slice_index_or rides j d).leg leg (rise i j d less within) (leg_precedes (slice_index_or rides j d).leg leg is))
  | inr same ↦ let e : j ≡ i = omega (arith, before, same) in subst (λ (k : ℕ). leg_lt (slice_index_or rides k d).leg leg ≡ true) e is
]

abbrev pub leg_of : ℕ → ℕ → Leg
leg_of enter exit = record { enter = record { 0 = enter }; exit = record { 0 = exit } }

-- a leg is known by its entry and its exit
pub same_leg : (a b : Leg) → a.enter.0 ≡ b.enter.0 → a.exit.0 ≡ b.exit.0 → a ≡ b
same_leg a b enter exit = ap₂ leg_of enter exit

pub leg_test : (a b : Leg) → ((a.enter.0 == b.enter.0) && (a.exit.0 == b.exit.0)) ≡ true → a ≡ b
leg_test a b is = same_leg a b (grind (arith, nat_tests)) (grind (arith, nat_tests))

pub leg_tested : (a b : Leg) → a ≡ b → ((a.enter.0 == b.enter.0) && (a.exit.0 == b.exit.0)) ≡ true
leg_tested a b is = grind arith

other_leg : (a b : Leg) → (a ≡ b → ⊥) → ((a.enter.0 == b.enter.0) && (a.exit.0 == b.exit.0)) ≡ false
other_leg a b other = grind (arith, cases_Bool, leg_test)

-- the rows after a leg, where the first ride is its
pub rows_here : (r : Ride) (rides : List Ride) (leg : Leg) → r.leg ≡ leg → rows_after (r ∷ rides) leg ≡ r.after
rows_here r rides leg same = rw (leg_tested r.leg leg same) refl

pub rows_further : (r : Ride) (rides : List Ride) (leg : Leg) → (r.leg ≡ leg → ⊥) → rows_after (r ∷ rides) leg ≡ rows_after rides leg
rows_further r rides leg other = rw (other_leg r.leg leg other) refl

pub rows_after-at : (rides : List Ride) (leg : Leg) (i : ℕ) (d : Ride) → AllWithin (λ r. leg_lt r.leg leg ≡ true) rides 0 i → i < length rides
    → (slice_index_or rides i d).leg ≡ leg → rows_after rides leg ≡ (slice_index_or rides i d).after
rows_after-at rides leg i d before within is = found_at (λ rs. rows_after rs leg) (is_ride_of leg) (λ r. r.after) [] refl (λ r rs. refl) rides i d within
    (λ k below. other_leg (slice_index_or rides k d).leg leg (precedes_itself (slice_index_or rides k d).leg leg (leg_precedes (slice_index_or rides k d).leg leg (before k d (omega arith) below))))
    (leg_tested (slice_index_or rides i d).leg leg is)

-- where the ride at the parting is not the leg's, no ride is
pub rows_after-none : (rides : List Ride) (leg : Leg) (i : ℕ) → AllPairs (λ a b. Precedes a.leg b.leg) rides
    → IsPartitionPoint (λ r. leg_lt r.leg leg ≡ true) (λ r. leg_lt r.leg leg ≡ false) rides i
    → ((d : Ride) → i < length rides → (slice_index_or rides i d).leg ≡ leg → ⊥) → rows_after rides leg ≡ []
rows_after-none rides leg i rise point other = found_nowhere (λ rs. rows_after rs leg) (is_ride_of leg) (λ r. r.after) [] refl (λ r rs. refl) rides d
    (λ k within. other_leg (slice_index_or rides k d).leg leg (λ is. elim (cases_lt k i) [
      | inl less ↦ precedes_itself (slice_index_or rides k d).leg leg (leg_precedes (slice_index_or rides k d).leg leg (point.0 k d (omega arith) less)) is
      | inr from ↦ elim (cases_lt i k) [
        | inl more ↦ false≢true (sym (point.1 i d (omega arith) (omega (arith, more, within)))
            ∙ leg_before (slice_index_or rides i d).leg leg (subst (λ (l : Leg). Precedes (slice_index_or rides i d).leg l) is (rise i k d more within)))
        | inr same ↦ let e : i ≡ k = omega (arith, from, same) in other d (omega (arith, e, within)) (subst (λ (n : ℕ). (slice_index_or rides n d).leg ≡ leg) (sym e) is)
      ]
    ]))
  where
    d : Ride
    d = record { leg = leg; after = [] }

-- the same of a slice of the rides of a graph
pub pick_after-at : (own rides : List Ride) (leg : Leg) (x i : ℕ) (r : Ride) → rides ≡ own
    → IsPartitionPoint (λ r. leg_lt r.leg leg ≡ true) (λ r. leg_lt r.leg leg ≡ false) rides i → i < length rides → r ≡ slice_index_or rides i r
    → r.leg ≡ leg → pick_row (rows_after own leg) x ≡ pick_row r.after x
pick_after-at own rides leg x i r same point within is here = grind (arith, rows_after-at)

pub pick_after-none : (own rides : List Ride) (leg : Leg) (x i : ℕ) → rides ≡ own → AllPairs (λ a b. Precedes a.leg b.leg) own
    → IsPartitionPoint (λ r. leg_lt r.leg leg ≡ true) (λ r. leg_lt r.leg leg ≡ false) rides i
    → ((d : Ride) → i < length rides → (slice_index_or rides i d).leg ≡ leg → ⊥) → pick_row (rows_after own leg) x ≡ None
pick_after-none own rides leg x i same rise point other =
    ap (λ (list : List Ride). pick_row (rows_after list leg) x) (sym same)
    ∙ ap (λ (rows : List GraphRow). pick_row rows x) (rows_after-none rides leg i (subst (λ (list : List Ride). AllPairs (λ a b. Precedes a.leg b.leg) list) (sym same) rise) point other)

-- two legs that are not unequal by their parts
pub leg_same : (a b : Leg) (test : Bool) → test ≡ not ((a.enter.0 == b.enter.0) && (a.exit.0 == b.exit.0)) → test ≡ false → a ≡ b
leg_same a b test is unequal = grind (arith, cases_Bool, leg_test, false≢true, not)

pub leg_other : (a b : Leg) (test : Bool) → test ≡ not ((a.enter.0 == b.enter.0) && (a.exit.0 == b.exit.0)) → test ≡ true → a ≡ b → ⊥
leg_other a b test is unequal same = false≢true (ap not (sym (leg_tested a b same)) ∙ sym is ∙ unequal)
