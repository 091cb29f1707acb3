-- Elements of lists, one at a time.
use Rattle.plan_model.proofs.Common.{◌≡◌, suc, ◌<◌, ◌⊎◌, ℕ, List, [], ◌∷◌, ◌++◌, map, length, get_or, All, AllPairs, Contains, arith, refl, inl, inr, ap, slice_index_or, All-append, All-contains}
use Rattle.plan_model.proofs.Common.{All-map, Contains-get_or, AllPairs-cons, nat_tests, common_steps}

module _ {X : Type 0} where
  pub Contains-nil : (x : X) → Contains [] x → ⊥
  Contains-nil x has = omega (arith, has.1)

  pub Contains-head : (x : X) (xs : List X) → Contains (x ∷ xs) x
  Contains-head x xs = (0, omega arith, refl)

  pub Contains-tail : (y : X) (xs : List X) (x : X) → Contains xs x → Contains (y ∷ xs) x
  Contains-tail y xs x has = (suc has.0, omega (arith, has.1), has.2)

  pub Contains-cons_cases : (y : X) (xs : List X) (x : X) → Contains (y ∷ xs) x → (y ≡ x) ⊎ Contains xs x
  Contains-cons_cases y xs x has = grind (arith, common_steps, nat_tests)

  pub All-from_contains : (P : X → Type 0) (xs : List X) → ((x : X) → Contains xs x → P x) → All P xs
  All-from_contains P xs each = λ k d within. each (slice_index_or xs k d) (Contains-get_or xs k d within)

  module _ (R : X → X → Type 0) where
    pub AllPairs-nil : AllPairs R []
    AllPairs-nil i j d below within = absurd (omega (arith, within))

    pub AllPairs-one : (x : X) → AllPairs R (x ∷ [])
    AllPairs-one x i j d below within = absurd (omega (arith, below, within))

    pub AllPairs-first : (x : X) (xs : List X) → AllPairs R (x ∷ xs) → All (R x) xs
    AllPairs-first x xs pairs k d within = pairs 0 (suc k) d (omega arith) (omega (arith, within))

    pub AllPairs-head : (x : X) (xs : List X) → AllPairs R (x ∷ xs) → (y : X) → Contains xs y → R x y
    AllPairs-head x xs pairs y = All-contains (R x) xs y (AllPairs-first x xs pairs)

    pub AllPairs-tail : (x : X) (xs : List X) → AllPairs R (x ∷ xs) → AllPairs R xs
    AllPairs-tail x xs pairs = λ i j d below within. pairs (suc i) (suc j) d (omega (arith, below)) (omega (arith, within))

    pub AllPairs-append : (xs ys : List X) → AllPairs R xs → AllPairs R ys
        → ((i j : ℕ) (d : X) → i < length xs → j < length ys → R (get_or xs i d) (get_or ys j d)) → AllPairs R (xs ++ ys)
    AllPairs-append [] ys pairs others cross = others
    AllPairs-append (x ∷ xs) ys pairs others cross =
        AllPairs-cons R x (xs ++ ys) (All-append (R x) xs ys (AllPairs-first x xs pairs) (λ j d within. cross 0 j d (omega arith) within))
        (AllPairs-append xs ys (AllPairs-tail x xs pairs) others (λ i j d inside within. cross (suc i) j d (omega (arith, inside)) within))

    pub AllPairs-with : (x : X) (xs : List X) → ((y : X) → Contains xs y → R x y) → AllPairs R xs → AllPairs R (x ∷ xs)
    AllPairs-with x xs each = AllPairs-cons R x xs (All-from_contains (R x) xs each)

module _ {X Y : Type 0} (f : X → Y) where
  pub Contains-map : (xs : List X) (x : X) → Contains xs x → Contains (map f xs) (f x)
  Contains-map [] x has = absurd (Contains-nil x has)
  Contains-map (y ∷ xs) x has = elim (Contains-cons_cases y xs x has) [
    | inl is ↦ (0, omega arith, ap f is)
    | inr more ↦ Contains-tail (f y) (map f xs) (f x) (Contains-map xs x more)
  ]

  pub Contains-from_map : (xs : List X) (y : Y) → Contains (map f xs) y → (x : X) × Contains xs x × (f x ≡ y)
  Contains-from_map xs y =
      let from = λ (z : Y). (x : X) × Contains xs x × (f x ≡ z) in
      All-contains from (map f xs) y (All-map from f xs (All-from_contains (λ x. from (f x)) xs (λ x has. (x, has, refl))))

  pub AllPairs-map : (R : Y → Y → Type 0) (xs : List X) → AllPairs (λ a b. R (f a) (f b)) xs → AllPairs R (map f xs)
  AllPairs-map R [] pairs = AllPairs-nil R
  AllPairs-map R (x ∷ xs) pairs = AllPairs-cons R (f x) (map f xs)
      (All-map (R (f x)) f xs (All-from_contains (λ y. R (f x) (f y)) xs (AllPairs-head (λ a b. R (f a) (f b)) x xs pairs)))
      (AllPairs-map R xs (AllPairs-tail (λ a b. R (f a) (f b)) x xs pairs))
