-- The least of numbers that are found one after the other.
use Rattle.lower_proof.proofs.Common.{◌≡◌, ℕ, zero, suc, ◌+◌, ◌<◌, ◌≤◌, ◌⊎◌, List, Option, Some, None, IsTrue, arith, inl, inr, subst, refl, both_ways, cases_Bool, cases_eq, cases_lt}
use Rattle.lower_proof.proofs.Common.{NetworkModel, count, connection, from_of, dep_of, way_of, IsBoardable, IsBoardableAtStart, bound_of, IsLeastOf, Offers, HasValueUpTo, lesser, KeepsTo}

-- with what may be one number more
module _ (P Q : ℕ → Type 0) (there : (v : ℕ) → P v → Q v) where
  pub least_with : (r here : Option ℕ) → IsLeastOf P r → ((v : ℕ) → here ≡ Some v → Q v) → ((v : ℕ) → Q v → P v ⊎ (here ≡ Some v)) → IsLeastOf Q (lesser r here)
  least_with r here least own cases = grind (arith, cases_lt)

  -- with none more
  pub least_same : (r : Option ℕ) → ((v : ℕ) → Q v → P v) → IsLeastOf P r → IsLeastOf Q r
  least_same r back least = grind arith

-- there is only one least
pub IsLeastOf-unique : (P : ℕ → Type 0) (r s : Option ℕ) → IsLeastOf P r → IsLeastOf P s → r ≡ s
IsLeastOf-unique P r s h k = grind arith

-- the least is P
pub least_is : (P : ℕ → Type 0) (r : Option ℕ) (v : ℕ) → IsLeastOf P r → r ≡ Some v → P v
least_is P r v least is = (subst (IsLeastOf P) is least).0

-- and not above any
pub least_up_to : (P : ℕ → Type 0) (r : Option ℕ) (v : ℕ) → IsLeastOf P r → P v → HasValueUpTo r v
least_up_to P r v least h = grind arith

-- of those of the first m
abbrev pub Below : (ℕ → ℕ → Type 0) → ℕ → ℕ → Type 0
Below R m v = (k : ℕ) × (k < m) × R k v

module _ (R : ℕ → ℕ → Type 0) where
  pub none_below : IsLeastOf (Below R 0) None
  none_below = λ v f. absurd (omega (arith, f.1))

  grown : (m v : ℕ) → Below R m v → Below R (m + 1) v
  grown m v f = (f.0, omega (arith, f.1), f.2)

  at_last : (m v : ℕ) → Below R (m + 1) v → Below R m v ⊎ R m v
  at_last m v f = grind (arith, cases_lt)

  -- one more, which has this value, where it has one
  pub below_more : (m : ℕ) (r here : Option ℕ) → ((v : ℕ) → here ≡ Some v → R m v) → ((v : ℕ) → R m v → here ≡ Some v) → IsLeastOf (Below R m) r
      → IsLeastOf (Below R (m + 1)) (lesser r here)
  below_more m r here own only least = least_with (Below R m) (Below R (m + 1)) (grown m) r here least (λ v is. (m, omega arith, own v is))
      (λ v f. elim (at_last m v f) [
        | inl before ↦ inl before
        | inr last ↦ inr (only v last)
      ])

  -- one more, which has none
  pub below_same : (m : ℕ) (r : Option ℕ) → ((v : ℕ) → R m v → ⊥) → IsLeastOf (Below R m) r → IsLeastOf (Below R (m + 1)) r
  below_same m r never = grind (arith, least_same, grown, at_last)

module _ (n : NetworkModel) (values : List (Option ℕ)) (Boards : ℕ → Type 0) where
  -- one connection more, that can be boarded
  pub with_offer : (m : ℕ) (r : Option ℕ) → m < count n → IsTrue (connection n m).can_board → Boards m → IsLeastOf (Below (Offers n values Boards) m) r
      → IsLeastOf (Below (Offers n values Boards) (m + 1)) (lesser r (bound_of values m))
  with_offer m r there board boards = grind (arith, below_more)

  -- all of them
  pub all_offers : (r : Option ℕ) → IsLeastOf (Below (Offers n values Boards) (count n)) r → IsLeastOf (λ v. (c : ℕ) × Offers n values Boards c v) r
  all_offers r = grind (arith, least_same)

  -- the least is found, where it can be decided which can be boarded
  least_offer : ((c : ℕ) → Boards c ⊎ (Boards c → ⊥)) → (r : Option ℕ) × IsLeastOf (λ v. (c : ℕ) × Offers n values Boards c v) r
  least_offer decide = let all = found (count n) (omega arith) in (all.0, all_offers all.0 all.1)
    where
      found : (m : ℕ) → m ≤ count n → (r : Option ℕ) × IsLeastOf (Below (Offers n values Boards) m) r
      found zero within = (None, none_below (Offers n values Boards))
      found (suc m) within =
          let before = found m (omega arith) in
          let next : m + 1 ≡ suc m = omega arith in
          subst (λ k. (r : Option ℕ) × IsLeastOf (Below (Offers n values Boards) k) r) next (elim (decide m) [
            | inl boards ↦ elim (cases_Bool (connection n m).can_board) [
              | inl board ↦ (lesser before.0 (bound_of values m), with_offer m before.0 (omega arith) board boards before.1)
              | inr closed ↦ (before.0, below_same (Offers n values Boards) m before.0 (λ v o. both_ways (connection n m).can_board closed o.board) before.1)
            ]
            | inr never ↦ (before.0, below_same (Offers n values Boards) m before.0 (λ v o. never o.boards) before.1)
          ])

-- it can be decided which connections one can board, so the least value of these is found
module _ (n : NetworkModel) (values : List (Option ℕ)) (p x : ℕ) where
  -- by the seconds of the way
  by_way : (c : ℕ) (way : Option ℕ) → way_of n p (from_of n c) ≡ way → IsBoardable n p x c ⊎ (IsBoardable n p x c → ⊥)
  by_way c None is = inr (λ b. let way = b.way in cc)
  by_way c (Some seconds) is = elim (cases_lt (dep_of n c) (x + seconds)) [
    | inl late ↦ inr (λ b. let way = b.way in let same : seconds ≡ b.seconds = (cc) in omega (arith, b.in_time))
    | inr in_time ↦ inl (record { seconds = seconds; way = is; in_time = in_time })
  ]

  -- the least of the connections that one can board after an arrival
  pub least_boardable : (r : Option ℕ) × IsLeastOf (λ v. (c : ℕ) × Offers n values (IsBoardable n p x) c v) r
  least_boardable = least_offer n values (IsBoardable n p x) (λ c. by_way c (way_of n p (from_of n c)) refl)

  starts_or_not : (c : ℕ) → IsBoardableAtStart n p x c ⊎ (IsBoardableAtStart n p x c → ⊥)
  starts_or_not c = grind (arith, cases_eq, cases_lt)

  -- the least of those that one can board at the start
  pub least_at_start : (r : Option ℕ) × IsLeastOf (λ v. (c : ℕ) × Offers n values (IsBoardableAtStart n p x) c v) r
  least_at_start = least_offer n values (IsBoardableAtStart n p x) starts_or_not

-- a value at most the least is at most each
pub keeps_to_each : (P : ℕ → Type 0) (own best : Option ℕ) → IsLeastOf P best → KeepsTo own best → (v : ℕ) → P v → HasValueUpTo own v
keeps_to_each P own best least keeps v h = grind arith

-- one that is at most each is at most the least
pub each_keeps_to : (P : ℕ → Type 0) (own best : Option ℕ) → IsLeastOf P best → ((v : ℕ) → P v → HasValueUpTo own v) → KeepsTo own best
each_keeps_to P own best least each = grind arith
