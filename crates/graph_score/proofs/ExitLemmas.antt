-- The connections that legs end with, by departure, and how many connections depart after one.
use Rattle.graph_score.proofs.Common.{◌≡◌, ℕ, zero, suc, ◌+◌, ◌<◌, ◌≤◌, Bool, true, false, cond, List, [], ◌∷◌, ◌++◌, length, map, get_or, nat_lt, All, AllPairs, Contains, arith, sym, subst}
use Rattle.graph_score.proofs.Common.{refl, inl, inr, ◌∙◌, ap, append_assoc, count_by, length-append, IsPermutation, cases_Bool, nat_tests, get_or_append_left, get_or_at, All-map}
use Rattle.graph_score.proofs.Common.{Contains-append_cases, Departure, NetworkModel, count, connection, no_connection, dep_of, departure_of, IsInOrder, Contains-map, Contains-cons_cases}
use Rattle.graph_score.proofs.Common.{All-from_contains, GraphLeg, exit_of, AreExits}
use Rattle.std.proofs.lemmas.List.{Sorted.{All-permutation, Contains-permutation}, Sums.{count_by-le-length, sum_by-cons}}
use Rattle.plan_model.specs.declared.model.Connection.{Connection}

-- ---- in order

not_later : (a b : Departure) → IsInOrder a b → a.dep.0 ≤ b.dep.0
not_later a b h1 = grind arith

pub exits_in_order : (n : NetworkModel) (legs : List GraphLeg) (xs ys : List Departure) → All (λ leg. (exit_of leg).0 < count n) legs
    → xs ≡ map (λ leg. departure_of n (exit_of leg)) legs → IsPermutation xs ys → AllPairs IsInOrder ys → AreExits n legs ys
exits_in_order n legs xs ys there is moved order =
    let from = λ (leg : GraphLeg). departure_of n (exit_of leg) in
    let IsExit = λ (d : Departure). (d.id.0 < count n) × (d ≡ departure_of n d.id) in
    record {
      each = All-permutation IsExit xs ys moved (subst (All IsExit) (sym is) (All-map IsExit from legs (λ k d within. (there k d within, refl))));
      all = All-from_contains (λ leg. Contains ys (from leg)) legs
          (λ leg has. Contains-permutation xs ys (from leg) moved (subst (λ (ds : List Departure). Contains ds (from leg)) (sym is) (Contains-map from legs leg has)));
      rising = λ i j d less within. not_later (get_or ys i d) (get_or ys j d) (order i j d less within);
    }

-- what departs after the next one, from the end on, was taken before it
pub later_taken : (order rest taken : List Departure) (next e : Departure) → AllPairs (λ a b. a.dep.0 ≤ b.dep.0) order → (rest ++ next ∷ []) ++ taken ≡ order
    → Contains order e → next.dep.0 < e.dep.0 → Contains taken e
later_taken order rest taken next e rising split has less =
    let same : rest ++ next ∷ taken ≡ order = sym (append_assoc rest (next ∷ []) taken) ∙ split in
    elim (Contains-append_cases rest (next ∷ taken) e (subst (λ (es : List Departure). Contains es e) (sym same) has)) [
      | inl front ↦
          let (i, within, at) = front in
          let inside : length rest < length order = subst (λ (es : List Departure). length rest < length es) same (omega (arith, length-append rest (next ∷ taken))) in
          let up = rising i (length rest) e within inside in
          let here : get_or order i e ≡ e = ap (λ (es : List Departure). get_or es i e) (sym same) ∙ get_or_append_left rest (next ∷ taken) e i within ∙ at in
          let there : get_or order (length rest) e ≡ next = ap (λ (es : List Departure). get_or es (length rest) e) (sym same) ∙ get_or_at rest next taken e (length rest) refl in
          let first = ap (λ (x : Departure). x.dep.0) here in
          let second = ap (λ (x : Departure). x.dep.0) there in
          absurd (omega (arith, up, first, second, less))
      | inr back ↦ grind (arith, Contains-cons_cases)
    ]

-- ---- how many depart later

module _ {X : Type 0} (p q : X → Bool) (also : (x : X) → p x ≡ true → q x ≡ true) where
  one_more : (x : X) → cond (p x) 1 0 ≤ cond (q x) 1 0
  one_more x = grind (arith, also, cases_Bool)

  count_by-cons : (r : X → Bool) (x : X) (xs : List X) → count_by r (x ∷ xs) ≡ cond (r x) 1 0 + count_by r xs
  count_by-cons r x xs = sum_by-cons (λ y. cond (r y) 1 0) x xs

  count_by-more : (xs : List X) → count_by p xs ≤ count_by q xs
  count_by-more [] = omega arith
  count_by-more (x ∷ xs) = omega (arith, one_more x, count_by-more xs, count_by-cons p x xs, count_by-cons q x xs)

  -- one more satisfies q
  count_by-less : (xs : List X) (k : ℕ) (d : X) → k < length xs → p (get_or xs k d) ≡ false → q (get_or xs k d) ≡ true → count_by p xs < count_by q xs
  count_by-less [] k d within fails holds = absurd (omega arith)
  count_by-less (x ∷ xs) zero d within fails holds = grind (arith, count_by-more, count_by-cons)
  count_by-less (x ∷ xs) (suc k) d within fails holds = omega (arith, one_more x, count_by-less xs k d (omega arith) fails holds, count_by-cons p x xs, count_by-cons q x xs)

abbrev pub later : NetworkModel → ℕ → ℕ
later n i = count_by (λ c. nat_lt (dep_of n i) c.dep.0) n.connections

pub later_fewer : (n : NetworkModel) (i j : ℕ) → j < count n → dep_of n i < dep_of n j → later n j < later n i
unfolding connection
later_fewer n i j there less = grind (arith, count_by-less)

pub later_few : (n : NetworkModel) (i : ℕ) → i < count n → later n i < count n
unfolding connection
later_few n i there =
    let less = count_by-less (λ (c : Connection). nat_lt (dep_of n i) c.dep.0) (λ c. true) (λ c after. refl) n.connections i no_connection there (grind (arith, nat_tests)) refl in
    omega (arith, less, count_by-le-length (λ (c : Connection). true) n.connections)
