-- What is accepted is a lower bound on each safe tree, and a tight certificate is the best.
use Rattle.std.proofs.lemmas.Grind.{common_steps}
use Rattle.lower_proof.proofs.Common.{◌≡◌, ◌≢◌, ℕ, ◌+◌, ◌*◌, ◌/◌, ◌^◌, ◌≤◌, List, [], ◌∷◌, Option, Some, None, arith, refl, map, length, sum_by, inl, inr, mul_assoc, mul-add, mul-le-mul_left}
use Rattle.lower_proof.proofs.Common.{nat_tests, Outcome, Query, NetworkModel, to_of, arr_of, outcomes, IsValid, count, connection, dep_of, IsLeg, IsBoardable, IsBoardableAtStart, IsSafe}
use Rattle.lower_proof.proofs.Common.{AreSafe, IsSafeFor, weighted, bound_of, IsLeastOf, Offers, arrived_by, IsLeastValue, IsLeastAt, AreLeast, HasValueUpTo, IsAccepted, IsLeastAtStart, IsVia}
use Rattle.lower_proof.proofs.{Common.{IsTight, cases_Bool, cases_eq, cases_lt, both_ways, sum_by-cons, forward, ◌<◌, IsTrue, get_or_past}, Leasts.{least_up_to, least_boardable, least_at_start}}
use Rattle.lower_proof.proofs.{Leasts.least_is, Departures.{after, after_less, after_starts, after_le, in_time_of, HoldsBy, holds_by}, Vias.IsLeast-unique}
use Rattle.lower_proof.specs.Promises.{IsSound, AreSoundValues, IsGreatestCertificate, IsNowhereAbove, IsBestCertificate}
use Rattle.plan_model.specs.{Tree.{Tree, Kids, Done, Ride, Stuck, Nil, Kid}, DelayRows.{EachKid, IsValidRow}, Expected.{Below, arrival as arrival_of, Covers}, Bounds.nanos_per_second}
use Rattle.plan_model.proofs.Laws.{below_less, covers_more}
use Rattle.interval_fixed.proofs.Sums.{mean_below, mean_covers}

pub at_most : (o : Option ℕ) (v : ℕ) → HasValueUpTo o v → (w : ℕ) × (o ≡ Some w) × (w ≤ v)
at_most o v h = grind arith

module _ (n : NetworkModel) (q : Query) (values : List (Option ℕ)) where
  -- who is at the target has arrived
  pub target_least : (Boards : ℕ → Type 0) (p x : ℕ) → p ≡ q.target.0 → x ≤ q.deadline.0 → IsLeastValue n q values Boards p x (Some (1000000000 * x))
  target_least Boards p x there in_time = grind (arith, nat_tests)

  done_below : (a x : ℕ) → a ≡ x → Below (1000000000 * x) (Done a)
  done_below a x is h tall = rw is (omega (arith, mul_assoc 1000000000 x (10000 ^ h)))

  module _ (accepted : IsAccepted n q values) where
    -- a ride: the least value is at most that of its exit
    pub ride_bound : (Boards : ℕ → Type 0) (p x i j : ℕ) (vs : List ℕ) (search : (r : Option ℕ) × IsLeastOf (λ w. (c : ℕ) × Offers n values Boards c w) r)
        → p ≢ q.target.0
        → IsLeg n i j → Boards i → AreLeast n q values (to_of n j) (arr_of n j) (outcomes n j) vs
        → (u : ℕ) × IsLeastValue n q values Boards p x (Some u) × (u ≤ weighted (outcomes n j) vs / 10000)
    ride_bound Boards p x i j vs search away leg boards all =
        let v = weighted (outcomes n j) vs / 10000 in
        let own = at_most (bound_of values i) v (accepted i leg.enter leg.board j v leg
        (record { leave = leg.leave; least = vs; are_least = all; mean = refl })) in
        let offer : Offers n values Boards i own.0 = record { there = leg.enter; board = leg.board; boards = boards; value = own.1 } in
        let found = at_most search.0 own.0 (least_up_to (λ w. (c : ℕ) × Offers n values Boards c w) search.0 own.0 search.1 (i, offer)) in (
          found.0,
          record {
            at_target = λ e. absurd (away e);
            elsewhere = grind arith;
          },
          omega (arith, found.2, own.2),
        )

    -- and below the ride
    ride_below : (Boards : ℕ → Type 0) (p x i j : ℕ) (kids : Kids) (search : (r : Option ℕ) × IsLeastOf (λ w. (c : ℕ) × Offers n values Boards c w) r)
        → p ≢ q.target.0 → IsLeg n i j → Boards i
        → (all : (vs : List ℕ) × AreLeast n q values (to_of n j) (arr_of n j) (outcomes n j) vs × EachKid Below (outcomes n j) vs kids)
        → (v : ℕ) × IsLeastValue n q values Boards p x (Some v) × Below v (Ride i j kids)
    ride_below Boards p x i j kids search away leg boards all =
        let ride = ride_bound Boards p x i j all.0 search away leg boards all.1 in (
          ride.0,
          ride.1,
          below_less nanos_per_second arrival_of ride.0 _ (Ride i j kids) ride.2
              (mean_below nanos_per_second arrival_of (outcomes n j) all.0 kids i j all.2),
        )

    mutual
      -- after an arrival
      bound_at : (tree : Tree) (p x : ℕ) → IsSafe n q.target.0 (Some q.deadline.0) tree p x → (v : ℕ) × IsLeastAt n q values p x (Some v) × Below v tree
      bound_at (Done a) p x safe = (1000000000 * x, target_least (IsBoardable n p x) p x safe.1 safe.2, done_below a x safe.0)
      bound_at (Ride i j kids) p x safe =
          ride_below (IsBoardable n p x) p x i j kids (least_boardable n values p x) safe.0 safe.1 safe.2
          (bound_all kids (outcomes n j) (to_of n j) (arr_of n j) safe.3)
      bound_at (Stuck at y) p x safe = absurd safe

      -- after each outcome
      bound_all : (kids : Kids) (row : List Outcome) (p arrival : ℕ) → AreSafe n q.target.0 (Some q.deadline.0) kids row p arrival → (vs : List ℕ)
          × AreLeast n q values p arrival row vs × EachKid Below row vs kids
      bound_all Nil [] p arrival safe = ([], tt, tt)
      bound_all (Kid w tree kids) (o ∷ row) p arrival safe =
          let one = bound_at tree p (arrival + o.delay) safe.1 in
          let others = bound_all kids row p arrival safe.2 in
          (one.0 ∷ others.0, (one.1, others.1), (safe.0, one.2, others.2))
      bound_all _ _ p arrival safe = absurd safe

    -- after boarding
    pub sound_values : AreSoundValues n q values
    sound_values i j kids leg safe =
        let all = bound_all kids (outcomes n j) (to_of n j) (arr_of n j) safe in
        let v = weighted (outcomes n j) all.0 / 10000 in
        let own = at_most (bound_of values i) v (accepted i leg.enter leg.board j v leg
        (record { leave = leg.leave; least = all.0; are_least = all.1; mean = refl })) in (
          own.0,
          own.1,
          below_less nanos_per_second arrival_of own.0 v (Ride i j kids) own.2
              (mean_below nanos_per_second arrival_of (outcomes n j) all.0 kids i j all.2),
        )

    -- at the start
    pub sound : IsSound n q values
    sound (Done a) safe = (1000000000 * q.start.0, target_least (IsBoardableAtStart n q.source.0 q.start.0) q.source.0 q.start.0 safe.1 safe.2, done_below a q.start.0 safe.0)
    sound (Ride i j kids) safe =
        ride_below (IsBoardableAtStart n q.source.0 q.start.0) q.source.0 q.start.0 i j kids (least_at_start n values q.source.0 q.start.0) safe.0 safe.1 safe.2
        (bound_all kids (outcomes n j) (to_of n j) (arr_of n j) safe.3)
    sound (Stuck at y) safe = absurd safe

-- ---- a tight certificate is the best

-- ---- some safe tree is near

-- The greedy tree: after each arrival the connection of least value and its best exit. Its expected arrival is less than a nanosecond above the least value for each ride.

-- a sum of values that are all raised
raised_sum : (row : List Outcome) (values : List ℕ) (k : ℕ) → length row ≡ length values → weighted row (map (λ v. v + k) values) ≡ weighted row values + k * sum_by (λ o. o.weight) row
raised_sum [] [] k same = omega arith
raised_sum (o ∷ row) (v ∷ values) k same = grind (arith, common_steps, sum_by-cons, mul-add, sum_by, raised_sum row values k (omega arith))
raised_sum _ _ k same = absurd (omega arith)

-- rounding down and up again loses less than one
raised_mean : (row : List Outcome) (values : List ℕ) (k : ℕ) → IsValidRow row → length row ≡ length values
    → (weighted row (map (λ v. v + k) values) + 9999) / 10000 ≤ weighted row values / 10000 + (k + 1)
raised_mean row values k good same = grind (arith, raised_sum)

module _ (n : NetworkModel) (valid : IsValid n) (q : Query) (values : List (Option ℕ)) (tight : IsTight n q values) where
  as_many : (p arrival : ℕ) (row : List Outcome) (vs : List ℕ) → AreLeast n q values p arrival row vs → length row ≡ length vs
  as_many p arrival [] [] all = refl
  as_many p arrival (o ∷ row) (v ∷ vs) all = omega (arith, as_many p arrival row vs all.1)
  as_many p arrival _ _ all = absurd all

  -- a tree near the least value after an arrival
  abbrev NearAt : ℕ → ℕ → ℕ → Type 0
  NearAt p x v = (tree : Tree) × IsSafe n q.target.0 (Some q.deadline.0) tree p x × Covers (v + after n x) tree

  -- one for each least value, where at most m connections depart later
  abbrev NearBy : ℕ → Type 0
  NearBy m = HoldsBy n valid q values NearAt m

  near_all : (m k : ℕ) → NearBy m → k ≤ m → (p arrival : ℕ) → after n arrival ≤ k → (row : List Outcome) (vs : List ℕ)
      → AreLeast n q values p arrival row vs → (kids : Kids) × AreSafe n q.target.0 (Some q.deadline.0) kids row p arrival × EachKid Covers row (map (λ v. v + k) vs) kids
  near_all m k near few p arrival later [] [] all = (Nil, tt, tt)
  near_all m k near few p arrival later (o ∷ row) (v ∷ vs) all =
      let less = after_less n arrival (arrival + o.delay) (omega arith) in
      let one = near p (arrival + o.delay) v (omega arith) all.0 in
      let others = near_all m k near few p arrival later row vs all.1 in
      (Kid o.weight one.0 others.0, (refl, one.1, others.1), (refl, covers_more nanos_per_second arrival_of (v + after n (arrival + o.delay)) (v + k) one.0 (omega arith) one.2, others.2))
  near_all m k near few p arrival later _ _ all = absurd all

  -- the ride of a connection that is offered
  near_ride : (m : ℕ) → NearBy m → (Boards : ℕ → Type 0) (c v more : ℕ) → after n (dep_of n c) ≤ m → after n (dep_of n c) + 1 ≤ more
      → Offers n values Boards c v
      → (j : ℕ) × (kids : Kids) × IsLeg n c j × AreSafe n q.target.0 (Some q.deadline.0) kids (outcomes n j) (to_of n j) (arr_of n j) × Covers (v + more)
      (Ride c j kids)
  near_ride m near Boards c v more few fewer offer =
      let (j, leg, via) = least_is (λ v. (j : ℕ) × IsLeg n c j × IsVia n q values j v) (bound_of values c) v
      (tight.boarded c offer.there offer.board) offer.value in
      let k = after n (dep_of n c) in
      let later = after_less n (dep_of n c) (arr_of n j) (forward n valid c j leg) in
      let good : IsValidRow (outcomes n j) = valid.rows (connection n j).class.0 (valid.connections j leg.exit).class_in in
      let (kids, safe, each) = near_all m k near few (to_of n j) (arr_of n j) later (outcomes n j) via.least via.are_least in
      let near_mean = raised_mean (outcomes n j) via.least k good (as_many (to_of n j) (arr_of n j) (outcomes n j) via.least via.are_least) in (
        j,
        kids,
        leg,
        safe,
        covers_more nanos_per_second arrival_of _ (v + more) (Ride c j kids) (omega (arith, near_mean, via.mean))
            (mean_covers nanos_per_second arrival_of (outcomes n j) (map (λ w. w + k) via.least) kids c j each),
      )

  done_near : (x v more : ℕ) → v ≡ 1000000000 * x → Covers (v + more) (Done x)
  done_near x v more is = covers_more nanos_per_second arrival_of v (v + more) (Done x) (omega arith) (λ h tall. rw is (omega (arith, mul_assoc 1000000000 x (10000 ^ h))))

  near_away : (m p x c v : ℕ) → NearBy m → after n (dep_of n c) ≤ m → after n (dep_of n c) + 1 ≤ after n x → p ≢ q.target.0 → Offers n values (IsBoardable n p x) c v → NearAt p x v
  near_away m p x c v near few fewer away offer =
      let ride = near_ride m near (IsBoardable n p x) c v (after n x) few fewer offer in
      (Ride c ride.0 ride.1, (away, ride.2, offer.boards, ride.3), ride.4)

  near_at : (m : ℕ) → NearBy m
  near_at = holds_by n valid q values NearAt (λ p x v there in_time is. (Done x, (refl, there, in_time), done_near x v (after n x) is)) near_away

  -- at the start
  pub near_start : (v : ℕ) → IsLeastAtStart n q values (Some v) → (tree : Tree) × IsSafeFor n q tree × Covers (v + count n) tree
  near_start v least = elim (cases_eq q.source.0 q.target.0) [
    | inl there ↦
        let done = in_time_of q.deadline.0 q.start.0 v (least.at_target there) in
        (Done q.start.0, (refl, there, done.0), done_near q.start.0 v (count n) done.1)
    | inr away ↦
        let (c, offer) = (least.elsewhere away).0 in
        let ride = near_ride (count n) (near_at (count n)) (IsBoardableAtStart n q.source.0 q.start.0) c v (count n) (after_le n (dep_of n c))
        (after_starts n c offer.there) offer in
        (Ride c ride.0 ride.1, (away, ride.2, offer.boards, ride.3), ride.4)
  ]

-- ---- no accepted certificate has a greater value

-- each value is at most the one that is beside it
abbrev EachAtMost : List ℕ → List ℕ → Type 0
EachAtMost [] [] = Unit {0}
EachAtMost (w ∷ ws) (v ∷ vs) = (w ≤ v) × EachAtMost ws vs
EachAtMost _ _ = ⊥

lesser_sum : (row : List Outcome) (ws vs : List ℕ) → EachAtMost ws vs → weighted row ws ≤ weighted row vs
lesser_sum [] ws vs each = omega arith
lesser_sum (o ∷ row) [] [] each = omega arith
lesser_sum (o ∷ row) (w ∷ ws) (v ∷ vs) each = omega (arith, mul-le-mul_left o.weight each.0, lesser_sum row ws vs each.1)
lesser_sum _ _ _ each = absurd each

module _ (n : NetworkModel) (valid : IsValid n) (q : Query) (values others : List (Option ℕ)) (tight : IsTight n q values) (accepted : IsAccepted n q others) where
  -- where one has a value, the other has one that is at most it
  abbrev LesserAt : ℕ → ℕ → ℕ → Type 0
  LesserAt p x v = (w : ℕ) × IsLeastAt n q others p x (Some w) × (w ≤ v)

  abbrev LesserBy : ℕ → Type 0
  LesserBy m = HoldsBy n valid q values LesserAt m

  lesser_all : (m : ℕ) → LesserBy m → (p arrival : ℕ) → after n arrival ≤ m → (row : List Outcome) (vs : List ℕ)
      → AreLeast n q values p arrival row vs → (ws : List ℕ) × AreLeast n q others p arrival row ws × EachAtMost ws vs
  lesser_all m lesser p arrival few [] [] all = ([], tt, tt)
  lesser_all m lesser p arrival few (o ∷ row) (v ∷ vs) all =
      let less = after_less n arrival (arrival + o.delay) (omega arith) in
      let one = lesser p (arrival + o.delay) v (omega arith) all.0 in
      let rest = lesser_all m lesser p arrival few row vs all.1 in
      (one.0 ∷ rest.0, (one.1, rest.1), (one.2, rest.2))
  lesser_all m lesser p arrival few _ _ all = absurd all

  lesser_ride : (m : ℕ) → LesserBy m → (Boards : ℕ → Type 0) (p x c v : ℕ) → after n (dep_of n c) ≤ m → p ≢ q.target.0 → Offers n values Boards c v
      → (r : Option ℕ) × IsLeastOf (λ w. (c : ℕ) × Offers n others Boards c w) r → (w : ℕ) × IsLeastValue n q others Boards p x (Some w) × (w ≤ v)
  lesser_ride m lesser Boards p x c v few away offer search =
      let (j, leg, via) = least_is (λ v. (j : ℕ) × IsLeg n c j × IsVia n q values j v) (bound_of values c) v
      (tight.boarded c offer.there offer.board) offer.value in
      let later = after_less n (dep_of n c) (arr_of n j) (forward n valid c j leg) in
      let all = lesser_all m lesser (to_of n j) (arr_of n j) (omega arith) (outcomes n j) via.least via.are_least in
      let less = lesser_sum (outcomes n j) all.0 via.least all.2 in
      let ride = ride_bound n q others accepted Boards p x c j all.0 search away leg offer.boards all.1 in
      (ride.0, ride.1, omega (arith, ride.2, less, via.mean))

  lesser_at : (m : ℕ) → LesserBy m
  lesser_at = holds_by n valid q values LesserAt
      (λ p x v there in_time is. (1000000000 * x, target_least n q others (IsBoardable n p x) p x there in_time, omega (arith, is)))
      (λ m p x c v lesser few fewer away offer. lesser_ride m lesser (IsBoardable n p x) p x c v few away offer (least_boardable n others p x))

  pub lesser_start : (v : ℕ) → IsLeastAtStart n q values (Some v) → (w : ℕ) × IsLeastAtStart n q others (Some w) × (w ≤ v)
  lesser_start v least = elim (cases_eq q.source.0 q.target.0) [
    | inl there ↦
        let done = in_time_of q.deadline.0 q.start.0 v (least.at_target there) in
        (1000000000 * q.start.0, target_least n q others (IsBoardableAtStart n q.source.0 q.start.0) q.source.0 q.start.0 there done.0, omega (arith, done.1))
    | inr away ↦
        let (c, offer) = (least.elsewhere away).0 in
        lesser_ride (count n) (lesser_at (count n)) (IsBoardableAtStart n q.source.0 q.start.0) q.source.0 q.start.0 c v (after_le n (dep_of n c)) away offer
        (least_at_start n others q.source.0 q.start.0)
  ]

  -- and so is a value at a connection
  up_to_more : (o : Option ℕ) (v w : ℕ) → v ≤ w → HasValueUpTo o v → HasValueUpTo o w
  up_to_more o v w less has = grind arith

  lesser_boarded : (c v : ℕ) → c < count n → IsTrue (connection n c).can_board → bound_of values c ≡ Some v → HasValueUpTo (bound_of others c) v
  lesser_boarded c v there board is =
      let (j, leg, via) = least_is (λ v. (j : ℕ) × IsLeg n c j × IsVia n q values j v) (bound_of values c) v (tight.boarded c there board) is in
      let all = lesser_all (count n) (lesser_at (count n)) (to_of n j) (arr_of n j) (after_le n (arr_of n j)) (outcomes n j) via.least via.are_least in
      let less = lesser_sum (outcomes n j) all.0 via.least all.2 in
      let mean = weighted (outcomes n j) all.0 / 10000 in
      let ride : IsVia n q others j mean = record { leave = via.leave; least = all.0; are_least = all.1; mean = refl } in
      up_to_more (bound_of others c) mean v (omega (arith, less, via.mean)) (accepted c there board j mean leg ride)

  never_valued : (c v : ℕ) → bound_of values c ≡ None → bound_of values c ≡ Some v → HasValueUpTo (bound_of others c) v
  never_valued c v none is = absurd (cc)

  pub lesser_values : IsNowhereAbove values others
  lesser_values c v is = grind (arith, cases_lt, cases_Bool, lesser_boarded, never_valued, both_ways, get_or_past)

pub greatest : (n : NetworkModel) → IsValid n → (q : Query) (values : List (Option ℕ)) → IsTight n q values → (v : ℕ) → IsLeastAtStart n q values (Some v) → IsGreatestCertificate n q v
greatest n valid q values tight v least others w accepted other_least =
    let (u, is, less) = lesser_start n valid q values others tight accepted v least in
    let same = IsLeast-unique n q others (IsBoardableAtStart n q.source.0 q.start.0) q.source.0 q.start.0 (Some u) (Some w) is other_least in
    let e : u ≡ w = (cc) in
    omega arith

-- ---- so it is the best

pub tight_accepted : (n : NetworkModel) (q : Query) (values : List (Option ℕ)) → IsTight n q values → IsAccepted n q values
tight_accepted n q values tight c there board j v leg via = grind (arith, least_up_to)

module _ (n : NetworkModel) (valid : IsValid n) (q : Query) (values : List (Option ℕ)) (tight : IsTight n q values) (never : (tree : Tree) → IsSafeFor n q tree → ⊥) where
  never_arrived : q.source.0 ≡ q.target.0 → None ≡ arrived_by q.deadline.0 q.start.0
  never_arrived there = elim (cases_lt q.deadline.0 q.start.0) [
    | inl late ↦ grind (arith, nat_tests)
    | inr in_time ↦ absurd (never (Done q.start.0) (refl, there, in_time))
  ]

  never_offered : (r : Option ℕ) → q.source.0 ≢ q.target.0
      → IsLeastOf (λ v. (c : ℕ) × Offers n values (IsBoardableAtStart n q.source.0 q.start.0) c v) r → IsLeastOf (λ v. (c : ℕ) × Offers n values (IsBoardableAtStart n q.source.0 q.start.0) c v) None
  never_offered None away least = least
  never_offered (Some v) away least =
      let near = near_start n valid q values tight v (record { at_target = λ there. absurd (away there); elsewhere = λ e. least }) in
      absurd (never near.0 near.1)

  never_least : IsLeastAtStart n q values None
  never_least =
      let search = least_at_start n values q.source.0 q.start.0 in
      record { at_target = never_arrived; elsewhere = λ away. never_offered search.0 away search.1 }

pub best : (n : NetworkModel) → IsValid n → (q : Query) (values : List (Option ℕ)) → IsTight n q values → IsBestCertificate n q values
best n valid q values tight = record {
  accepted = tight_accepted n q values tight;
  value = λ tree safe.
      let (v, least, below) = sound n q values (tight_accepted n q values tight) tree safe in
      (v, least, greatest n valid q values tight v least, near_start n valid q values tight v least);
  none = λ never. never_least n valid q values tight never;
  each = λ others accepted. lesser_values n valid q values others tight accepted;
}
