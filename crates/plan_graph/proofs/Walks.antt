-- The rides of the legs that were reached.
use Rattle.plan_graph.proofs.Common.{arith, ◌≡◌, ◌≢◌, ℕ, List, map, Option, Some, Contains, All, AllPairs, sym, subst, refl, ◌∙◌, ap, zero, suc, ◌+◌, [], ◌∷◌, inl, inr, slice_index_or, ne_eqb}
use Rattle.plan_graph.proofs.Common.{eq-eqb, All-map, All-contains, Less-from_sorted, Leg, Outcome, Query, NetworkModel, IsValid, Tree, end_of, arrival_of, outcomes_of, unfolding_of, kids_after}
use Rattle.plan_graph.proofs.Common.{ride_or_stuck, unfold_after, unfold_from, GraphRow, Ride, pick_row, pick_after, Precedes, IsLegOf, Stands, StandsIn, row_by, table_after, ride_of_leg}
use Rattle.plan_graph.proofs.{Common.{leg_cmp, IsReached, IsWalked, IsTaken, HasRideOf, Contains-map, AllPairs-map, All-from_contains, cases_eq}, Orders.leg_cmp-Less, Places.IsPlacedNext}
use Rattle.plan_graph.proofs.{Places.next_after, Tables.{first_pick, first_there, Sooner, first_in_table, one_found, picked_there}, Together.{IsSameNext, unfold_from-together}}
use Rattle.plan_graph.proofs.{Rides.{rows_after-own, ride_there}, Searches.same_leg}

-- what comes after the outcomes of a ride comes after one of them
stands_after : (leg : Leg) (f : ℕ → Tree) (scheduled : ℕ) (row : List Outcome) → StandsIn leg (kids_after f scheduled row) → (x : ℕ) × Stands leg (f x)
stands_after leg f scheduled [] there = absurd there
stands_after leg f scheduled (o ∷ row) (inl there) = (scheduled + o.delay, there)
stands_after leg f scheduled (o ∷ row) (inr there) = stands_after leg f scheduled row there

module _ (n : NetworkModel) (target : ℕ) (rides : List Ride)
    (closed : (r : Ride) → Contains rides r → (row : GraphRow) → Contains r.after row → HasRideOf rides row.leg) where
  -- a leg that is picked has a ride
  picked_ride : (own : Leg) (x : ℕ) (next : Leg) → pick_after rides own x ≡ Some next → HasRideOf rides next
  picked_ride own x next picks =
      let own_ride = ride_there rides own x next picks in
      let row = picked_there own_ride.found.after x next (ap (λ (rows : List GraphRow). pick_row rows x) (sym own_ride.same_rows) ∙ picks) in
      subst (λ (l : Leg). HasRideOf rides l) row.2
      (closed own_ride.found own_ride.has row.0 row.1)

  ride_of_first : (leg : Leg) (next : Leg → ℕ → Tree) (p x : ℕ) (first : Option Leg)
      → ((own : Leg) → first ≡ Some own → HasRideOf rides own)
      → ((own : Leg) (y : ℕ) → Stands leg (next own y) → HasRideOf rides leg)
      → Stands leg (ride_or_stuck n next first p x) → HasRideOf rides leg
  ride_of_first leg next p x first begins goes there = grind (arith, same_leg, stands_after)

  -- after a leg
  ride_after : (leg : Leg) (more : ℕ) (own : Leg) (x : ℕ) → Stands leg (unfold_after n target (pick_after rides) more own x) → HasRideOf rides leg
  ride_after leg zero own x there = grind (arith, cases_eq, eq-eqb, ne_eqb)
  ride_after leg (suc more) own x there = elim (cases_eq (end_of n own) target) [
    | inl is ↦ absurd (rw (eq-eqb (end_of n own) target is) at there)
    | inr away ↦ ride_of_first leg (unfold_after n target (pick_after rides) more) (end_of n own) x (pick_after rides own x) (picked_ride own x)
        (ride_after leg more)
        (rw (ne_eqb (end_of n own) target away) at there)
  ]

  -- from a first leg on, where that has a ride
  pub ride_from : (leg : Leg) (first : Option Leg) (p x : ℕ) → ((own : Leg) → first ≡ Some own → HasRideOf rides own)
      → Stands leg (unfold_from n target (pick_after rides) first p x) → HasRideOf rides leg
  ride_from leg first p x begins there = grind (arith, cases_eq, eq-eqb, ride_of_first, ride_after, ne_eqb)

-- the delays after a leg rise
pub delays_rise : (n : NetworkModel) → IsValid n → (leg : Leg) → IsLegOf n leg → AllPairs Sooner (outcomes_of n leg)
delays_rise n valid leg is_leg = (valid.rows _ (valid.connections leg.exit.0 is_leg.exit).class_in).rising

module _ (n : NetworkModel) (valid : IsValid n) (q : Query) (choice : Leg → ℕ → Option Leg) (start : Leg) (legs : List Leg)
    (reached : IsReached n q.target.0 choice (unfolding_of n q choice (Some start)) start legs) where
  abbrev target : ℕ
  target = q.target.0

  abbrev whole : Tree
  whole = unfolding_of n q choice (Some start)

  abbrev own_ride : Leg → Ride
  own_ride leg = ride_of_leg n target choice leg

  abbrev rides : List Ride
  rides = map own_ride legs

  rising : AllPairs (λ a b. Precedes a.leg b.leg) rides
  rising = AllPairs-map own_ride (λ a b. Precedes a.leg b.leg) legs
      (λ i j d below within. leg_cmp-Less (slice_index_or legs i d) (slice_index_or legs j d) (Less-from_sorted leg_cmp legs i j d reached.ordered below within))

  next : (leg : Leg) → Contains legs leg → end_of n leg ≢ target → (o : Outcome) → Contains (outcomes_of n leg) o
      → IsPlacedNext n target reached.deadline choice whole leg (arrival_of n leg o.delay)
  next leg has = next_after n target reached.deadline choice whole leg (reached.placed leg has)

  -- after a leg that was reached the rides pick what is chosen, which was reached too
  picks_chosen : (leg : Leg) → Contains legs leg → end_of n leg ≢ target → (o : Outcome) → Contains (outcomes_of n leg) o
      → IsSameNext (pick_after rides) choice (Contains legs) leg (arrival_of n leg o.delay)
  picks_chosen leg has away o there =
      let t = next leg has away o there in
      let x = arrival_of n leg o.delay in
      let rows = table_after n target choice leg in
      let first = first_in_table n target choice leg (delays_rise n valid leg (reached.placed leg has).is_leg) away o there t.next t.is_chosen in
      record {
        next = t.next;
        is_chosen = ap (λ (list : List GraphRow). pick_row list x) (rows_after-own rides rising (own_ride leg) (Contains-map own_ride legs leg has))
            ∙ first_pick rows x (row_by x t.next) first;
        is_other = t.is_chosen;
        holds = reached.closed leg has (row_by x t.next) (first_there rows x (row_by x t.next) first).1;
      }

  unfolds : unfolding_of n q (pick_after rides) (Some start) ≡ whole
  unfolds = unfold_from-together n target (pick_after rides) choice (Contains legs) picks_chosen start reached.start_there q.source.0 q.start.0

  -- what holds of each ride of a reached leg holds of all rides
  all_rides : (P : Ride → Type 0) → ((leg : Leg) → Contains legs leg → P (own_ride leg)) → All P rides
  all_rides P each = All-map P own_ride legs (All-from_contains (λ leg. P (own_ride leg)) legs each)

  at_ride : (P : Ride → Type 0) → ((leg : Leg) → Contains legs leg → P (own_ride leg)) → (r : Ride) → Contains rides r → P r
  at_ride P each r = All-contains P rides r (all_rides P each)

  has_ride : (leg : Leg) → Contains legs leg → HasRideOf rides leg
  has_ride leg has = (own_ride leg, Contains-map own_ride legs leg has, refl)

  taken : (leg : Leg) → Contains legs leg → end_of n leg ≢ target → (o : Outcome) → Contains (outcomes_of n leg) o → IsTaken n choice leg (arrival_of n leg o.delay)
  taken leg has away o there =
      let t = next leg has away o there in
      record { next = t.next; is_chosen = t.is_chosen; is_leg = t.placed.is_leg; boards = t.boards }

  closed : (r : Ride) → Contains rides r → (row : GraphRow) → Contains r.after row → HasRideOf rides row.leg
  closed = at_ride (λ r. (row : GraphRow) → Contains r.after row → HasRideOf rides row.leg) (λ leg has row there. has_ride row.leg (reached.closed leg has row there))

  covered : (leg : Leg) → Stands leg whole → HasRideOf rides leg
  covered leg there =
      ride_from n target rides closed leg (Some start) q.source.0 q.start.0
      (λ own is. subst (λ (l : Leg). HasRideOf rides l) (one_found (Some start) start own refl is) (has_ride start reached.start_there))
      (subst (λ (tree : Tree). Stands leg tree) (sym unfolds) there)

  pub walked : IsWalked n q choice start rides
  walked = record {
    unfolds = unfolds;
    rising = rising;
    legs = all_rides (λ r. IsLegOf n r.leg) (λ leg has. (reached.placed leg has).is_leg);
    tables = all_rides (λ r. r.after ≡ table_after n target choice r.leg) (λ leg has. refl);
    stands = all_rides (λ r. Stands r.leg whole) (λ leg has. (reached.placed leg has).stands);
    whole = covered;
    begins = has_ride start reached.start_there;
    closed = closed;
    taken = at_ride (λ r. end_of n r.leg ≢ target → (o : Outcome) → Contains (outcomes_of n r.leg) o → IsTaken n choice r.leg (arrival_of n r.leg o.delay)) taken;
  }
