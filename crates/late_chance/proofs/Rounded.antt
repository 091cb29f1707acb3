-- Means rounded ride by ride: of trees with all moments later, and of trees whose arrivals count for nothing.
use Rattle.late_chance.proofs.Common.{◌≡◌, ℕ, ◌+◌, ◌*◌, ◌/◌, ◌≤◌, arith, Some, List, [], ◌∷◌, true, refl, ap, nat_le, nat_tests, Interval, Outcome, Query, NetworkModel, to_of, arr_of, outcomes, Tree}
use Rattle.late_chance.proofs.Common.{Done, Ride, Stuck, Kids, Nil, Kid, IsSafe, AreSafe, IsSafeFor, late, later_by, all_later_by, PlanGraph, rounded_up, sum_up, rounded_down, sum_down, IsPunctual}

module _ (scale shift : ℕ) (f g : ℕ → ℕ) (same : (a : ℕ) → f (a + shift) ≡ g a) where
  mutual
    pub up-later : (tree : Tree) → rounded_up scale f (later_by shift tree) ≡ rounded_up scale g tree
    up-later (Done a) = ap (λ (k : ℕ). scale * k) (same a)
    up-later (Ride i j kids) = ap (λ (u : ℕ). (u + 9999) / 10000) (sum_up-later kids)
    up-later (Stuck p x) = refl

    sum_up-later : (kids : Kids) → sum_up scale f (all_later_by shift kids) ≡ sum_up scale g kids
    sum_up-later Nil = refl
    sum_up-later (Kid w tree kids) = let e = up-later tree in let k = sum_up-later kids in rw (e, k) refl

  mutual
    pub down-later : (tree : Tree) → rounded_down scale f (later_by shift tree) ≡ rounded_down scale g tree
    down-later (Done a) = ap (λ (k : ℕ). scale * k) (same a)
    down-later (Ride i j kids) = ap (λ (l : ℕ). l / 10000) (sum_down-later kids)
    down-later (Stuck p x) = refl

    sum_down-later : (kids : Kids) → sum_down scale f (all_later_by shift kids) ≡ sum_down scale g kids
    sum_down-later Nil = refl
    sum_down-later (Kid w tree kids) = let e = down-later tree in let k = sum_down-later kids in rw (e, k) refl

-- where no arrival by the deadline counts
module _ (scale : ℕ) (leaf : ℕ → ℕ) (n : NetworkModel) (target d : ℕ) (none : (a : ℕ) → a ≤ d → leaf a ≡ 0) where
  leaf_none : (a x : ℕ) → a ≡ x → x ≤ d → scale * leaf a ≡ 0
  leaf_none a x same by = let z = none a (omega (arith, same, by)) in rw z (omega arith)

  mutual
    up_none : (tree : Tree) (p x : ℕ) → IsSafe n target (Some d) tree p x → rounded_up scale leaf tree ≡ 0
    up_none (Done a) p x safe = leaf_none a x safe.0 safe.2
    up_none (Ride i j kids) p x safe = ap (λ (u : ℕ). (u + 9999) / 10000) (sum_up_none kids (outcomes n j) (to_of n j) (arr_of n j) safe.3)
    up_none (Stuck q y) p x safe = absurd safe

    pub sum_up_none : (kids : Kids) (row : List Outcome) (p scheduled : ℕ) → AreSafe n target (Some d) kids row p scheduled → sum_up scale leaf kids ≡ 0
    sum_up_none Nil row p scheduled safe = refl
    sum_up_none (Kid w tree kids) [] p scheduled safe = absurd safe
    sum_up_none (Kid w tree kids) (o ∷ row) p scheduled safe =
        let e = up_none tree p (scheduled + o.delay) safe.1 in
        grind (arith, sum_up_none kids row p scheduled safe.2)

  mutual
    down_none : (tree : Tree) (p x : ℕ) → IsSafe n target (Some d) tree p x → rounded_down scale leaf tree ≡ 0
    down_none (Done a) p x safe = leaf_none a x safe.0 safe.2
    down_none (Ride i j kids) p x safe = ap (λ (l : ℕ). l / 10000) (sum_down_none kids (outcomes n j) (to_of n j) (arr_of n j) safe.3)
    down_none (Stuck q y) p x safe = absurd safe

    pub sum_down_none : (kids : Kids) (row : List Outcome) (p scheduled : ℕ) → AreSafe n target (Some d) kids row p scheduled → sum_down scale leaf kids ≡ 0
    sum_down_none Nil row p scheduled safe = refl
    sum_down_none (Kid w tree kids) [] p scheduled safe = absurd safe
    sum_down_none (Kid w tree kids) (o ∷ row) p scheduled safe =
        let e = down_none tree p (scheduled + o.delay) safe.1 in
        grind (arith, sum_down_none kids row p scheduled safe.2)

  pub from_start : (tree : Tree) (q : Query) → q.target.0 ≡ target → q.deadline.0 ≡ d → IsSafeFor n q tree
      → (rounded_up scale leaf tree ≡ 0) × (rounded_down scale leaf tree ≡ 0)
  from_start tree q there by safe = grind (arith, leaf_none, sum_up_none, sum_down_none)

same_interval : (a : Interval) → a.lo ≡ 0 → a.hi ≡ 0 → a ≡ record { lo = 0; hi = 0 }
same_interval a l h = λ i. record { lo = l i; hi = h i }

not_late : (promise a : ℕ) → a ≤ promise → late promise a ≡ 0
not_late promise a by = let test : nat_le a promise ≡ true = grind (arith, nat_tests) in rw test refl

-- by a promise that is not before the deadline there is no chance of being late
pub no_chance : (m : NetworkModel) (q : Query) (promise : ℕ) (graph : PlanGraph) (chance : Interval) → IsPunctual m q promise graph chance → q.deadline.0 ≤ promise
    → chance ≡ record { lo = 0; hi = 0 }
no_chance m q promise graph chance p by = grind (arith, from_start, not_late, same_interval)
