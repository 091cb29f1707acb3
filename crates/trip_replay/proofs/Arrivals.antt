-- Whatever delays come, who does what a safe tree says arrives.
use Rattle.trip_replay.proofs.Common.{◌≡◌, ℕ, ◌+◌, ◌≤◌, List, [], ◌∷◌, ◌++◌, true, Some, Ok, All, arith, inl, inr, refl, eq-eqb, ne_eqb, cases_eq, All-nil, All-push, Outcome, Query, NetworkModel}
use Rattle.trip_replay.proofs.Common.{arr_of, to_of, outcomes, Tree, Done, Ride, Stuck, Kids, Nil, Kid, IsSafe, AreSafe, IsSafeFor, Ridden, Trace, has_delay, ride_with_delay, walk, walk_child}
use Rattle.trip_replay.proofs.Common.{trace_of}
use Rattle.trip_replay.specs.Late.{ArePossible, IsLateBy, Arrives}

module _ (n : NetworkModel) (target deadline : ℕ) (late : ℕ → ℕ) (possible : ArePossible n late) where
  -- the same from a node on, with these rides behind
  record ArrivesFrom (tree : Tree) (behind : List Ridden) : Type 0 where
    delays : List ℕ
    trace : Trace
    trip : walk n tree delays behind ≡ Ok trace
    in_time : trace.arrival.0 ≤ deadline
    late_by : All (IsLateBy late) trace.rides

  -- and from the outcomes of a ride on
  record ChildArrives (kids : Kids) (row : List Outcome) (i j : ℕ) (behind : List Ridden) : Type 0 where
    delays : List ℕ
    trace : Trace
    trip : walk_child n kids row i j (late j) delays behind ≡ Ok trace
    in_time : trace.arrival.0 ≤ deadline
    late_by : All (IsLateBy late) trace.rides

  mutual
    arrive : (tree : Tree) (p x : ℕ) (behind : List Ridden) → IsSafe n target (Some deadline) tree p x → All (IsLateBy late) behind → ArrivesFrom tree behind
    arrive (Done a) p x behind safe own = record { delays = []; trace = trace_of behind a; trip = refl; in_time = let is = safe.0 in omega (arith, is, safe.2); late_by = own }
    arrive (Stuck q y) p x behind safe own = absurd safe
    arrive (Ride i j kids) p x behind safe own =
        let k = arrive_child kids (outcomes n j) (to_of n j) (arr_of n j) i j behind safe.3 (possible j safe.1.exit) own in
        record { delays = late j ∷ k.delays; trace = k.trace; trip = k.trip; in_time = k.in_time; late_by = k.late_by }

    arrive_child : (kids : Kids) (row : List Outcome) (p scheduled i j : ℕ) (behind : List Ridden) → AreSafe n target (Some deadline) kids row p scheduled
        → has_delay row (late j) ≡ true → All (IsLateBy late) behind → ChildArrives kids row i j behind
    arrive_child Nil [] p scheduled i j behind safe has own = absurd (cc)
    arrive_child (Kid w tree kids) (o ∷ row) p scheduled i j behind safe has own = elim (cases_eq o.delay (late j)) [
      | inl is ↦
          let a = arrive tree p (scheduled + o.delay) (behind ++ ride_with_delay n i j (late j) ∷ []) safe.1
          (All-push (IsLateBy late) behind (ride_with_delay n i j (late j)) own refl) in
          record { delays = a.delays; trace = a.trace; trip = rw (eq-eqb o.delay (late j) is) a.trip; in_time = a.in_time; late_by = a.late_by }
      | inr differ ↦ grind (arith, ne_eqb, arrive_child kids row p scheduled i j behind safe.2 (rw (ne_eqb o.delay (late j) differ) at has) own)
    ]
    arrive_child _ _ p scheduled i j behind safe has own = absurd safe

pub arrives : (n : NetworkModel) (q : Query) (tree : Tree) (late : ℕ → ℕ) → IsSafeFor n q tree → ArePossible n late → Arrives n q.deadline.0 tree late
arrives n q (Done a) late safe possible =
    record { delays = []; trace = trace_of [] a; trip = refl; in_time = let is = safe.0 in omega (arith, is, safe.2); late_by = All-nil (IsLateBy late) }
arrives n q (Stuck p y) late safe possible = absurd safe
arrives n q (Ride i j kids) late safe possible =
    let k = arrive_child n q.target.0 q.deadline.0 late possible kids (outcomes n j) (to_of n j) (arr_of n j) i j [] safe.3 (possible j safe.1.exit) (All-nil (IsLateBy late)) in
    record { delays = late j ∷ k.delays; trace = k.trace; trip = k.trip; in_time = k.in_time; late_by = k.late_by }
