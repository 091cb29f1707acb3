-- The rides so far with one more, and the walk down the tree of a graph.
use Rattle.trip_replay.proofs.Common.{◌≡◌, ℕ, ◌+◌, List, [], ◌∷◌, ◌++◌, Some, None, Bool, true, false, refl, ◌≢◌, ◌-◌, ◌<◌, length, drop, Option, Err, Result, All, arith, ◌∙◌, ap, if◌then◌else◌}
use Rattle.trip_replay.proofs.Common.{◌==◌, slice_index_or, IfSome, eq-eqb, ne_eqb, Leg, NetworkModel, arr_of, to_of, outcomes, outcomes_of, kids_after, unfold_after, IsLegOf, Ridden, has_delay}
use Rattle.trip_replay.proofs.Common.{delayed_arrival, tree_at, IsRidden, arrival_after, place_after, cases_eq, drop_more, Outcome, Query, Tree, Done, Ride, Stuck, Kids, Nil, Kid, IsSafe}
use Rattle.trip_replay.proofs.Common.{AreSafe, IsSafeFor, PlaceTable, pick_at, IsFitTable, picked_leg, Trace, ride_with_delay, walk, walk_child, IsAnswer, IsSafeAnswer}
use Rattle.trip_replay.specs.declared.{Position.Position, ReplayFault.ReplayFault}
use Rattle.trip_replay.specs.declared.ReplayFault.TheVariants as fault

pub delay_some : (n : NetworkModel) (leg : Leg) (delay x : ℕ) (test : Bool) → has_delay (outcomes_of n leg) delay ≡ test
    → (if test then Some (arr_of n leg.exit.0 + delay) else None) ≡ Some x → (has_delay (outcomes_of n leg) delay ≡ true) × (arr_of n leg.exit.0 + delay ≡ x)
delay_some n leg delay x test is some = grind arith

-- the ride of a leg with a delay that it can have
pub is_ride : (n : NetworkModel) (leg : Leg) (delay x : ℕ) → IsLegOf n leg → delayed_arrival n leg delay ≡ Some x → IsRidden n (record { leg = leg; delay = delay; arrival = record { 0 = x } })
is_ride n leg delay x is some = grind (arith, delay_some)

pub arrival_after-push : (start : ℕ) (rides : List Ridden) (r : Ridden) → arrival_after start (rides ++ r ∷ []) ≡ r.arrival.0
arrival_after-push start [] r = refl
arrival_after-push start (ride ∷ rides) r = arrival_after-push ride.arrival.0 rides r

pub place_after-push : (n : NetworkModel) (source : ℕ) (rides : List Ridden) (r : Ridden) → place_after n source (rides ++ r ∷ []) ≡ to_of n r.leg.exit.0
place_after-push n source [] r = refl
place_after-push n source (ride ∷ rides) r = place_after-push n (to_of n ride.leg.exit.0) rides r

-- ---- the walk down the tree of a graph

-- the walk after a ride, by whether the delay is one of its outcomes
pub child_walk : (n : NetworkModel) (f : ℕ → Tree) (scheduled : ℕ) (row : List Outcome) (i j delay : ℕ) (delays : List ℕ) (behind : List Ridden)
    → walk_child n (kids_after f scheduled row) row i j delay delays behind ≡
    (if has_delay row delay then walk n (f (scheduled + delay)) delays (behind ++ ride_with_delay n i j delay ∷ []) else Err (fault.NotADelay (length behind + 1)))
child_walk n f scheduled [] i j delay delays behind = refl
child_walk n f scheduled (o ∷ row) i j delay delays behind = grind (arith, cases_eq, eq-eqb, ne_eqb, child_walk n f scheduled row i j delay delays behind)

module _ (n : NetworkModel) (target : ℕ) (choice : Leg → ℕ → Option Leg) (s : Position) (behind : List Ridden) (delays : List ℕ) (i : ℕ) where
  pub too_many : s.place.0 ≡ target → i < length delays → walk n (tree_at n target choice s) (drop i delays) behind ≡ Err (fault.TooMany (length behind))
  too_many is within = rw (eq-eqb s.place.0 target is, drop_more delays i 0 within) refl

  rides_on : (leg : Leg) (d : ℕ) → s.place.0 ≢ target → s.next ≡ Some leg → i < length delays
      → walk n (tree_at n target choice s) (drop i delays) behind ≡
      (if has_delay (outcomes_of n leg) (slice_index_or delays i d) then walk n
      (unfold_after n target choice s.remaining leg (arr_of n leg.exit.0 + slice_index_or delays i d)) (drop (i + 1) delays)
      (behind ++ ride_with_delay n leg.enter.0 leg.exit.0 (slice_index_or delays i d) ∷ []) else Err (fault.NotADelay (length behind + 1)))
  rides_on leg d away is within = grind (arith, ne_eqb, drop_more, child_walk, slice_index_or)

  delay_none : (leg : Leg) (delay : ℕ) (test : Bool) → has_delay (outcomes_of n leg) delay ≡ test
      → (if test then Some (arr_of n leg.exit.0 + delay) else None) ≡ None → has_delay (outcomes_of n leg) delay ≡ false
  delay_none leg delay test is none = grind arith

  pub not_a_delay : (leg : Leg) (d : ℕ) → s.place.0 ≢ target → s.next ≡ Some leg → i < length delays
      → delayed_arrival n leg (slice_index_or delays i d) ≡ None → walk n (tree_at n target choice s) (drop i delays) behind ≡ Err (fault.NotADelay (length behind + 1))
  not_a_delay leg d away is within none =
      rides_on leg d away is within ∙ rw (delay_none leg (slice_index_or delays i d) (has_delay (outcomes_of n leg) (slice_index_or delays i d)) refl none) refl

  -- after a ride
  pub after_ride : (leg : Leg) (d x : ℕ) → s.place.0 ≢ target → s.next ≡ Some leg → i < length delays → delayed_arrival n leg (slice_index_or delays i d) ≡ Some x
      → walk n (tree_at n target choice s) (drop i delays) behind ≡ walk n (unfold_after n target choice s.remaining leg x) (drop (i + 1) delays)
      (behind ++ (record { leg = leg; delay = slice_index_or delays i d; arrival = record { 0 = x } }) ∷ [])
  after_ride leg d x away is within some =
      let both = delay_some n leg (slice_index_or delays i d) x (has_delay (outcomes_of n leg) (slice_index_or delays i d)) refl some in
      rides_on leg d away is within
      ∙ rw both.0 (ap (λ (y : ℕ). walk n (unfold_after n target choice s.remaining leg y) (drop (i + 1) delays)
      (behind ++ (record { leg = leg; delay = slice_index_or delays i d; arrival = record { 0 = y } }) ∷ [])) both.1)

-- a safe tree ends no walk as stuck, nor too late
module _ (n : NetworkModel) (target deadline : ℕ) where
  safe_by : (test : Bool) (a b : Result Trace ReplayFault) → IsSafeAnswer deadline a → IsSafeAnswer deadline b → IsSafeAnswer deadline (if test then a else b)
  safe_by test a b one two = grind arith

  mutual
    pub safe_walk : (tree : Tree) (p x : ℕ) (delays : List ℕ) (behind : List Ridden) → IsSafe n target (Some deadline) tree p x → IsSafeAnswer deadline (walk n tree delays behind)
    safe_walk (Done a) p x [] behind safe = let is = safe.0 in omega (arith, is, safe.2)
    safe_walk (Stuck q y) p x delays behind safe = absurd safe
    safe_walk (Ride i j kids) p x (delay ∷ delays) behind safe = safe_children kids (outcomes n j) (to_of n j) (arr_of n j) i j delay delays behind safe.3
    safe_walk _ p x _ behind safe = tt

    safe_children : (kids : Kids) (row : List Outcome) (p scheduled i j delay : ℕ) (delays : List ℕ) (behind : List Ridden)
        → AreSafe n target (Some deadline) kids row p scheduled → IsSafeAnswer deadline (walk_child n kids row i j delay delays behind)
    safe_children Nil row p scheduled i j delay delays behind safe = tt
    safe_children (Kid w tree kids) [] p scheduled i j delay delays behind safe = absurd safe
    safe_children (Kid w tree kids) (o ∷ row) p scheduled i j delay delays behind safe =
        safe_by (o.delay == delay) (walk n tree delays (behind ++ ride_with_delay n i j delay ∷ [])) (walk_child n kids row i j delay delays behind)
        (safe_walk tree p (scheduled + o.delay) delays (behind ++ ride_with_delay n i j delay ∷ []) safe.1) (safe_children kids row p scheduled i j delay delays behind safe.2)

safe_start : (n : NetworkModel) (q : Query) (tree : Tree) (delays : List ℕ) → IsSafeFor n q tree → IsSafeAnswer q.deadline.0 (walk n tree delays [])
safe_start n q tree delays safe = grind (arith, safe_children)

pub safe_answer : (n : NetworkModel) (q : Query) (tree : Tree) (delays : List ℕ) (result : Result Trace ReplayFault)
    → IsAnswer result (walk n tree delays []) → IsSafeFor n q tree → IsSafeAnswer q.deadline.0 result
safe_answer n q tree delays result is safe = grind (arith, safe_start)

pub next_leg : (n : NetworkModel) (tables : List PlaceTable) → All (IsFitTable n) tables → (place x remaining : ℕ) (found : Option Leg)
    → found ≡ pick_at tables place x → 0 < remaining → IfSome found (λ next. IsLegOf n next × (remaining - 1 < remaining))
next_leg n tables fit place x remaining found is some = grind (arith, picked_leg)

-- a leg that is next leaves fewer rides
pub next_step : (n : NetworkModel) (most before remaining new_remaining : ℕ) (next : Option Leg) → IfSome next (λ leg. IsLegOf n leg × (new_remaining < remaining))
    → before + remaining < most → IfSome next (λ leg. IsLegOf n leg × (before + 1 + new_remaining < most))
next_step n most before remaining new_remaining next said few = grind arith
