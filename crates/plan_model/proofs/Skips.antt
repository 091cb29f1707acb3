-- What departs by a moment comes first in a scan order.
use Rattle.plan_model.proofs.Common.{◌≡◌, ℕ, ◌+◌, ◌<◌, ◌≤◌, List, ◌++◌, length, get_or, take, drop, arith, sym, ap, ◌∙◌, length-drop, take-append-drop, get_or-drop, get_or-take, length-take-le}
use Rattle.plan_model.proofs.Common.{cases_eq, ConnectionId, NetworkModel, dep_of, IsEarlier, IsScanOrder, IsPrefixUpTo, nat_tests, common_steps}

take_take : {X : Type 0} (xs : List X) (i j : ℕ) → i ≤ j → take i (take j xs) ≡ take i xs
take_take {X} xs i j h = grind (arith, common_steps, nat_tests)

pub dep_of_earlier : (n : NetworkModel) (i j : ℕ) → IsEarlier n i j → dep_of n i ≤ dep_of n j
dep_of_earlier n i j h1 = grind arith

-- departures do not fall along a scan order
pub dep_along : (n : NetworkModel) (ids : List ConnectionId) → IsScanOrder n ids → (i j : ℕ) (d : ConnectionId) → i ≤ j → j < length ids → dep_of n (get_or ids i d).0 ≤ dep_of n (get_or ids j d).0
dep_along n ids order i j d h within = grind (arith, cases_eq)

-- of the first connections those before low depart by a moment, and those from high on after it
pub record IsHalved (n : NetworkModel) (ids : List ConnectionId) (last remaining low high : ℕ) : Type 0 where
  pub ordered : low ≤ high
  pub within : high ≤ remaining
  pub soon : (k : ℕ) (d : ConnectionId) → k < low → dep_of n (get_or ids k d).0 ≤ last
  pub late : (k : ℕ) (d : ConnectionId) → high ≤ k → k < remaining → last < dep_of n (get_or ids k d).0

module _ (n : NetworkModel) (ids : List ConnectionId) (last remaining low high : ℕ) (order : IsScanOrder n ids) (h : IsHalved n ids last remaining low high) where
  pub IsHalved-up : (middle : ℕ) → low ≤ middle → middle < high → remaining ≤ length ids → ((d : ConnectionId) → dep_of n (get_or ids middle d).0 ≤ last)
      → IsHalved n ids last remaining (middle + 1) high
  IsHalved-up middle from to all soon = grind (arith, dep_along)

  pub IsHalved-down : (middle : ℕ) → low ≤ middle → middle < high → remaining ≤ length ids → ((d : ConnectionId) → last < dep_of n (get_or ids middle d).0) → IsHalved n ids last remaining low middle
  IsHalved-down middle from to all late = grind (arith, dep_along)

  pub IsPrefixUpTo-halved : high ≤ low → remaining ≤ length ids → IsPrefixUpTo n last (take remaining ids) (take low ids)
  IsPrefixUpTo-halved done all =
      let low_is : low ≤ remaining = omega (arith, h.ordered, h.within) in
      let front : take low (take remaining ids) ≡ take low ids = take_take ids low remaining low_is in
      let long : length (take remaining ids) ≡ remaining = length-take-le remaining ids all in
      record {
        skipped = drop low (take remaining ids);
        split = sym (take-append-drop low (take remaining ids)) ∙ ap (λ (xs : List ConnectionId). xs ++ drop low (take remaining ids)) front;
        late = grind (arith, length-drop, get_or-drop, get_or-take);
        soon = grind (arith, length-take-le, get_or-take);
      }
