-- The route types that are named: they rise, and a list that delay_rises and has each of them is theirs.
use Rattle.std.proofs.lemmas.Grind.{common_steps}
use Rattle.delay_table.proofs.Common.{◌≡◌, ℕ, zero, suc, ◌<◌, ◌≤◌, List, [], ◌∷◌, ◌++◌, length, refl, sym, ap₂, subst, arith, ⊎_elim, All, AllPairs, Contains, append-nil, cases_lt, All-contains}
use Rattle.delay_table.proofs.Common.{All-nil, All-push, Contains-append_left, Contains-push, all_pairs_push, Outcome, Group, if_some, route_types_below, type_rows}

-- a list that delay_rises has what is in its tail above its head
after-head : (x : ℕ) (xs : List ℕ) → AllPairs (λ a b. a < b) (x ∷ xs) → (r : ℕ) → x < r → Contains (x ∷ xs) r → Contains xs r
after-head x xs rising r less given = grind arith

head-least : (x : ℕ) (xs : List ℕ) → AllPairs (λ a b. a < b) (x ∷ xs) → (r : ℕ) → Contains (x ∷ xs) r → x ≤ r
head-least x xs rising r (zero, inside, is) = omega (arith, is)
head-least x xs rising r (suc k, inside, is) = omega (arith, is, rising 0 (suc k) r (omega arith) inside)

tail-rises : (x : ℕ) (xs : List ℕ) → AllPairs (λ a b. a < b) (x ∷ xs) → AllPairs (λ a b. a < b) xs
tail-rises x xs rising i j d less inside = rising (suc i) (suc j) d (omega arith) (omega arith)

in-tail : (x : ℕ) (xs : List ℕ) → AllPairs (λ a b. a < b) (x ∷ xs) → (r : ℕ) → Contains xs r → (x < r) × Contains (x ∷ xs) r
in-tail x xs rising r (k, inside, is) = (omega (arith, is, rising 0 (suc k) r (omega arith) (omega arith)), (suc k, omega arith, is))

-- two lists that rise are the same where each has what the other has
same-rising : (xs ys : List ℕ) → AllPairs (λ a b. a < b) xs → AllPairs (λ a b. a < b) ys → ((r : ℕ) → Contains xs r → Contains ys r) → ((r : ℕ) → Contains ys r → Contains xs r) → xs ≡ ys
same-rising [] [] u v f g = refl
same-rising [] (y ∷ ys) u v f g = absurd (omega (arith, (g y (0, omega arith, refl)).1))
same-rising (x ∷ xs) [] u v f g = absurd (omega (arith, (f x (0, omega arith, refl)).1))
same-rising (x ∷ xs) (y ∷ ys) u v f g =
    let head : x ≡ y = omega (arith, head-least x xs u y (g y (0, omega arith, refl)), head-least y ys v x (f x (0, omega arith, refl))) in
    ap₂ (λ a b. a ∷ b) head (same-rising xs ys (tail-rises x xs u) (tail-rises y ys v)
    (λ r c. let w = in-tail x xs u r c in after-head y ys v r (omega (arith, w.0)) (f r w.1))
    (λ r c. let w = in-tail y ys v r c in after-head x xs u r (omega (arith, w.0)) (g r w.1)))

module _ (rows : Group → List Outcome) where
  -- these route types rise, and each is below n and has outcomes
  pub record AreNamed (n : ℕ) (types : List ℕ) : Type 0 where
    pub below : All (λ r. r < n) types
    pub rising : AllPairs (λ a b. a < b) types
    pub some : All (λ r. 0 < length (type_rows rows r)) types

  -- and each below n that has outcomes is there
  abbrev pub HasNamed : ℕ → List ℕ → Type 0
  HasNamed n types = (r : ℕ) → r < n → 0 < length (type_rows rows r) → Contains types r

  -- one type more, if it has outcomes
  more-are : (n : ℕ) (types : List ℕ) (r : List Outcome) → r ≡ type_rows rows n → AreNamed n types → AreNamed (suc n) (types ++ if_some r n)
  more-are n types r e s = grind (arith, append-nil, common_steps, All-push, all_pairs_push)

  pub route_types_below-are : (n : ℕ) → AreNamed n (route_types_below rows n)
  unfolding route_types_below
  route_types_below-are zero = record { below = All-nil (λ r. r < 0); rising = λ i j d less l. absurd (omega arith); some = All-nil (λ r. 0 < length (type_rows rows r)) }
  route_types_below-are (suc n) = more-are n (route_types_below rows n) (type_rows rows n) refl (route_types_below-are n)

  last-has : (n : ℕ) (types : List ℕ) (r : List Outcome) → 0 < length r → Contains (types ++ if_some r n) n
  last-has n types [] some = absurd (omega arith)
  last-has n types (o ∷ os) some = Contains-push types n

  route_types_below-has : (n : ℕ) → HasNamed n (route_types_below rows n)
  unfolding route_types_below
  route_types_below-has zero r l some = absurd (omega arith)
  route_types_below-has (suc n) r l some =
      ⊎_elim (λ (less : r < n). Contains-append_left (route_types_below rows n) (if_some (type_rows rows n) n) r (route_types_below-has n r less some))
      (λ (end : n ≤ r).
      let same : n ≡ r = omega arith in
      subst (λ x. Contains (route_types_below rows n ++ if_some (type_rows rows n) n) x) same
      (last-has n (route_types_below rows n) (type_rows rows n) (subst (λ x. 0 < length (type_rows rows x)) (sym same) some)))
      (cases_lt r n)

  pub are-route_types_below : (n : ℕ) (types : List ℕ) → AreNamed n types → HasNamed n types → types ≡ route_types_below rows n
  are-route_types_below n types s has =
      let t = route_types_below-are n in
      grind (arith, same-rising, route_types_below-has, All-contains)
