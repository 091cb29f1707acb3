-- How many connections depart after a moment, and what holds of each least value, since it does where it holds of those after later departures.
use Rattle.lower_proof.proofs.Common.{◌≡◌, ◌≢◌, ℕ, zero, suc, ◌+◌, ◌*◌, ◌<◌, ◌≤◌, cond, ltb, List, Option, Some, arith, refl, cases_eq, cases_lt, nat_tests, Query, NetworkModel, IsValid, count}
use Rattle.lower_proof.proofs.Common.{dep_of, IsBoardable, boards_later, Offers, arrived_by, IsLeastAt}

-- the sum of the first m
abbrev total : (ℕ → ℕ) → ℕ → ℕ
total f zero = 0
total f (suc m) = f m + total f m

total_le : (f g : ℕ → ℕ) (m : ℕ) → ((k : ℕ) → f k ≤ g k) → total f m ≤ total g m
total_le f g zero each = omega arith
total_le f g (suc m) each = omega (arith, each m, total_le f g m each)

-- where one is less
total_lt : (f g : ℕ → ℕ) (c m : ℕ) → c < m → ((k : ℕ) → f k ≤ g k) → f c + 1 ≤ g c → total f m + 1 ≤ total g m
total_lt f g c zero within each less = absurd (omega arith)
total_lt f g c (suc m) within each less = grind (arith, cases_lt, total_le, total_lt f g c m)

total_ones : (m : ℕ) → total (λ k. 1) m ≡ m
total_ones zero = refl
total_ones (suc m) = omega (arith, total_ones m)

-- of all connections
unfoldable pub after : NetworkModel → ℕ → ℕ
after n x = total (λ c. cond (ltb x (dep_of n c)) 1 0) (count n)

at_most_one : (x d : ℕ) → cond (ltb x d) 1 0 ≤ 1
at_most_one x d = grind (arith, nat_tests)

one_less : (x y d : ℕ) → x ≤ y → cond (ltb y d) 1 0 ≤ cond (ltb x d) 1 0
one_less x y d later = grind (arith, nat_tests)

pub after_less : (n : NetworkModel) (x y : ℕ) → x ≤ y → after n y ≤ after n x
unfolding after
after_less n x y later = total_le _ _ (count n) (λ c. one_less x y (dep_of n c) later)

pub after_boards : (n : NetworkModel) (x c : ℕ) → c < count n → x < dep_of n c → after n (dep_of n c) + 1 ≤ after n x
unfolding after
after_boards n x c within early = total_lt _ _ c (count n) within (λ d. one_less x (dep_of n c) (dep_of n d) (omega arith)) (grind (arith, nat_tests))

pub after_starts : (n : NetworkModel) (c : ℕ) → c < count n → after n (dep_of n c) + 1 ≤ count n
unfolding after
after_starts n c within = omega (
  arith,
  total_ones (count n),
  total_lt _ (λ k. 1) c (count n) within (λ d. at_most_one (dep_of n c) (dep_of n d))
      (grind (arith, nat_tests)),
)

pub after_le : (n : NetworkModel) (x : ℕ) → after n x ≤ count n
unfolding after
after_le n x = omega (arith, total_ones (count n), total_le _ (λ k. 1) (count n) (λ c. at_most_one x (dep_of n c)))

-- who has arrived at the target is in time
pub in_time_of : (deadline x v : ℕ) → Some v ≡ arrived_by deadline x → (x ≤ deadline) × (v ≡ 1000000000 * x)
in_time_of deadline x v is = (grind (arith, nat_tests), grind (arith, nat_tests))

module _ (n : NetworkModel) (valid : IsValid n) (q : Query) (values : List (Option ℕ)) (P : ℕ → ℕ → ℕ → Type 0) where
  -- of each, where at most m connections depart later
  abbrev pub HoldsBy : ℕ → Type 0
  HoldsBy m = (p x v : ℕ) → after n x ≤ m → IsLeastAt n q values p x (Some v) → P p x v

  module _ (arrived : (p x v : ℕ) → p ≡ q.target.0 → x ≤ q.deadline.0 → v ≡ 1000000000 * x → P p x v)
      (boarded : (m p x c v : ℕ) → HoldsBy m → after n (dep_of n c) ≤ m → after n (dep_of n c) + 1 ≤ after n x → p ≢ q.target.0 → Offers n values (IsBoardable n p x) c v → P p x v) where
    -- a least value elsewhere than at the target
    abbrev HoldsAway : ℕ → Type 0
    HoldsAway m = (p x c v : ℕ) → after n x ≤ m → p ≢ q.target.0 → Offers n values (IsBoardable n p x) c v → P p x v

    fewer_after : (p x c v : ℕ) → Offers n values (IsBoardable n p x) c v → after n (dep_of n c) + 1 ≤ after n x
    fewer_after p x c v offer = after_boards n x c offer.there (boards_later n valid p x c offer.there offer.boards)

    or_arrived : (m : ℕ) → HoldsAway m → HoldsBy m
    or_arrived m elsewhere p x v few least = grind (arith, cases_eq, in_time_of)

    holds_away : (m : ℕ) → HoldsAway m
    holds_away zero p x c v few away offer = absurd (omega (arith, fewer_after p x c v offer))
    holds_away (suc m) p x c v few away offer = let fewer = fewer_after p x c v offer in boarded m p x c v (or_arrived m (holds_away m))
        (omega arith) fewer away offer

    pub holds_by : (m : ℕ) → HoldsBy m
    holds_by m = or_arrived m (holds_away m)
