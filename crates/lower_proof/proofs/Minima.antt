-- Least values of front parts, one entry after the other.
use Rattle.lower_proof.proofs.Common.{◌≡◌, ◌≢◌, ℕ, ◌+◌, ◌-◌, ◌<◌, ◌≤◌, List, get_or, length, take, set, Option, Some, None, arith, get_or-set_other, get_or-set_same, length-take, get_or-take}
use Rattle.lower_proof.proofs.{Common.{cases_eq, cases_lt, Entry, bound_of, IsLeastOf, lesser, entry_at, Falls, FrontValue, ValueInTime, least_of, AreMinima, IsBoard}, Leasts.least_same}
use Rattle.lower_proof.proofs.Leasts.{below_more}

-- what holds of the elements of a list by their positions, after one is set
pub get_or-set : {A : Type 0} (P : ℕ → A → Type 0) (xs : List A) (i j : ℕ) (x d : A) → i < length xs → P i x → (j ≢ i → P j (get_or xs j d))
    → P j (get_or (set xs i x) j d)
get_or-set P xs i j x d inside here other = grind (arith, cases_eq, get_or-set_same, get_or-set_other)

module _ (values : List (Option ℕ)) (entries : List Entry) where
  -- the least of the first k, from those that are known
  pub before_is : (least : List (Option ℕ)) (k known : ℕ) → 1 ≤ k → k ≤ known → AreMinima values entries least known
      → IsLeastOf (FrontValue values entries k) (least_of least (k - 1))
  before_is least k known some within minima = grind arith

  pub minima_more : (least : List (Option ℕ)) (k : ℕ) (before : Option ℕ) → k < length least → AreMinima values entries least k
      → IsLeastOf (FrontValue values entries k) before → AreMinima values entries (set least k (lesser before (bound_of values (entry_at entries k).id.0))) (k + 1)
  minima_more least k before within minima is_least j below =
      get_or-set (λ i r. IsLeastOf (FrontValue values entries (i + 1)) r) least k j (lesser before (bound_of values (entry_at entries k).id.0)) None within
      (below_more (λ i v. bound_of values (entry_at entries i).id.0 ≡ Some v) k before (bound_of values (entry_at entries k).id.0) (λ v is. is)
      (λ v is. is) is_least)
      (λ differ. minima j (omega arith))

  -- the first entries that are in time give the values in time
  pub front_in_time : (x m : ℕ) → m ≤ length entries → ((k : ℕ) → k < m → x ≤ (entry_at entries k).by.0)
      → ((k : ℕ) → m ≤ k → k < length entries → (entry_at entries k).by.0 < x) → (least : Option ℕ) → IsLeastOf (FrontValue values entries m) least → IsLeastOf (ValueInTime values entries x) least
  front_in_time x m within in_time late least is = grind (arith, least_same, cases_lt)

-- what is shown of a board whose first least values are known
pub board_shown : (values : List (Option ℕ)) (entries : List Entry) (least : List (Option ℕ)) (known : ℕ) → Falls entries → known ≤ length least → known ≤ length entries
    → AreMinima values entries least known → IsBoard values (record { entries = entries; least = take known least })
board_shown values entries least known falls within inside minima = grind (arith, length-take, get_or-take)
