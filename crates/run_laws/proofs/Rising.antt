-- A list in which each is before the next follows from what it contains.
use Rattle.run_laws.proofs.Common.{◌≡◌, List, [], ◌∷◌, AllPairs, Contains, refl, sym, ap₂, Contains-nil, Contains-head, Contains-tail, Contains-cons_cases, AllPairs-head, AllPairs-tail, arith}

-- what the one list has the other has too
abbrev pub HasAll : {X : Type 0} → List X → List X → Type 0
HasAll {X} xs ys = (x : X) → Contains xs x → Contains ys x

module _ {X : Type 0} (R : X → X → Type 0) (one_way : (a b : X) → R a b → R b a → ⊥) where
  first_same : (x y : X) (xs ys : List X) → AllPairs R (x ∷ xs) → AllPairs R (y ∷ ys) → Contains (y ∷ ys) x → Contains (x ∷ xs) y → x ≡ y
  first_same x y xs ys up other has back = grind (arith, Contains-cons_cases y ys x has, Contains-cons_cases x xs y back, AllPairs-head R x xs up y, AllPairs-head R y ys other x)

  rest_has : (x y : X) (xs ys : List X) → x ≡ y → AllPairs R (x ∷ xs) → HasAll (x ∷ xs) (y ∷ ys) → HasAll xs ys
  rest_has x y xs ys same up each z has = grind (arith, Contains-cons_cases y ys z (each z (Contains-tail x xs z has)), Contains-tail x xs z has, AllPairs-head R x xs up z has)

  pub one_rising : (xs ys : List X) → AllPairs R xs → AllPairs R ys → HasAll xs ys → HasAll ys xs → xs ≡ ys
  one_rising [] [] up other each back = refl
  one_rising [] (y ∷ ys) up other each back = absurd (Contains-nil y (back y (Contains-head y ys)))
  one_rising (x ∷ xs) [] up other each back = absurd (Contains-nil x (each x (Contains-head x xs)))
  one_rising (x ∷ xs) (y ∷ ys) up other each back =
      let same = first_same x y xs ys up other (each x (Contains-head x xs)) (back y (Contains-head y ys)) in
      ap₂ (λ z zs. z ∷ zs) same
      (one_rising xs ys (AllPairs-tail R x xs up) (AllPairs-tail R y ys other) (rest_has x y xs ys same up each) (rest_has y x ys xs (sym same) other back))
