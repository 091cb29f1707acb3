-- The connections that depart by a moment, in order, are in the scan order.
use Rattle.lower_proof.proofs.Common.{◌≡◌, ℕ, ◌+◌, ◌<◌, ◌≤◌, ◌∷◌, [], ◌++◌, List, length, map, All, AllPairs, Contains, arith, inl, inr, sym, ap, ◌∙◌, refl, append_assoc, IsPermutation, append-nil}
use Rattle.lower_proof.proofs.Common.{cases_lt, map-append, All-push, All-map, All-contains, Contains-append_left, Contains-append_right, All-permutation, Contains-permutation, Departure}
use Rattle.lower_proof.proofs.Common.{ConnectionId, NetworkModel, IsValid, count, dep_of, IsOrderBut, IsNext, Known, next_of, all_known, earlier_in_order, IsDepartingBy, AreDepartingBy}
use Rattle.std.proofs.lemmas.List.Quantifiers.{all_pairs_push}
use Rattle.plan_model.specs.Order.{IsEarlier, departure_of, IsInOrder}
use Rattle.plan_model.proofs.Lists.{AllPairs-map, Contains-map, Contains-from_map}

-- ---- found one after the other

-- those of the first m, by rising number
pub record AreFound (n : NetworkModel) (last m : ℕ) (found : List Departure) : Type 0 where
  pub each : All (IsDepartingBy n last) found
  pub below : All (λ d. d.id.0 < m) found
  pub all : (c : ℕ) → c < m → dep_of n c ≤ last → Contains found (departure_of n (record { 0 = c }))
  pub rising : AllPairs (λ a b. a.id.0 < b.id.0) found

pub found_later : (n : NetworkModel) (last m : ℕ) (found : List Departure) → last < dep_of n m → AreFound n last m found → AreFound n last (m + 1) found
found_later n last m found late are = grind (arith, cases_lt)

pub found_more : (n : NetworkModel) (last m : ℕ) (found : List Departure) (d : Departure) → m < count n → d ≡ departure_of n (record { 0 = m }) → d.dep.0 ≤ last
    → AreFound n last m found → AreFound n last (m + 1) (found ++ d ∷ [])
found_more n last m found d there is soon are =
    let number : d.id.0 ≡ m = ap (λ (x : Departure). x.id.0) is in
    let departs : d.dep.0 ≡ dep_of n d.id.0 = ap (λ (x : Departure). x.dep.0) is ∙ ap (dep_of n) (sym number) in
    record {
      each = All-push (IsDepartingBy n last) found d are.each (omega arith, departs, soon);
      below = All-push (λ (x : Departure). x.id.0 < m + 1) found d (λ k e within. let less = are.below k e within in omega arith) (omega arith);
      all = grind (arith, cases_lt, Contains-append_left, Contains-append_right);
      rising = all_pairs_push (λ (a b : Departure). a.id.0 < b.id.0) found d are.rising (λ k e within. let less = are.below k e within in omega arith);
    }

-- ---- in order

pub departures_sorted : (n : NetworkModel) → IsValid n → (last : ℕ) (xs ys : List Departure) → AreFound n last (count n) xs → IsPermutation xs ys → AllPairs IsInOrder ys
    → AreDepartingBy n last ys
departures_sorted n good last xs ys found moved order =
    let each = All-permutation (IsDepartingBy n last) xs ys moved found.each in
    record {
      each = each;
      all = λ c there soon. Contains-permutation xs ys (departure_of n (record { 0 = c })) moved (found.all c there soon);
      rising = earlier_in_order n good xs ys found.rising moved (λ k d within. let one = each k d within in (one.0, one.1)) order;
    }

-- ---- the walk

-- those that depart later are left out
abbrev pub Late : NetworkModel → ℕ → ℕ → Type 0
Late n last c = last < dep_of n c

-- their connections
abbrev pub ids_of : List Departure → List ConnectionId
ids_of departures = map (λ d. d.id) departures

departures_in_order : (n : NetworkModel) (last : ℕ) (departures : List Departure) → AreDepartingBy n last departures → IsOrderBut n (Late n last) (ids_of departures)
departures_in_order n last departures are =
    let id = λ (d : Departure). d.id in
    record {
      within = All-map (λ (c : ConnectionId). c.0 < count n) id departures (λ k d within. (are.each k d within).0);
      all = λ c there. elim (cases_lt last (dep_of n c)) [
        | inl late ↦ inl late
        | inr soon ↦ inr (Contains-map id departures (departure_of n (record { 0 = c })) (are.all c there soon))
      ];
      rising = AllPairs-map id (λ a b. IsEarlier n a.0 b.0) departures are.rising;
      last = λ i j there late.
          let (d, has, is) = Contains-from_map id departures (record { 0 = i }) there in
          let one = All-contains (IsDepartingBy n last) departures d are.each has in
          let departs = ap (λ (c : ConnectionId). dep_of n c.0) is in
          inl (omega (arith, one.1, one.2));
    }

-- the connections that remain, before those that were taken
abbrev pub IsRest : NetworkModel → ℕ → List Departure → List ConnectionId → Type 0
IsRest n last rest taken = IsOrderBut n (Late n last) (ids_of rest ++ taken)

pub rest_first : (n : NetworkModel) (last : ℕ) (departures : List Departure) → AreDepartingBy n last departures → IsRest n last departures []
rest_first n last departures are = rw (append-nil (ids_of departures)) (departures_in_order n last departures are)

-- one is taken
module _ (n : NetworkModel) (good : IsValid n) (last : ℕ) (taken : List ConnectionId) (before rest : List Departure) (d : Departure) (popped : before ≡ rest ++ d ∷ [])
    (is : IsRest n last before taken) where
  pub rest_popped : IsRest n last rest (d.id ∷ taken)
  rest_popped = grind (arith, ids_of, map-append, append_assoc)

  pub next_popped : IsNext n (Known (Late n last) taken) d.id.0
  next_popped = next_of n good (Late n last) (ids_of rest ++ d.id ∷ taken) rest_popped (ids_of rest) taken d.id (append_assoc (ids_of rest) (d.id ∷ []) taken)

-- all are taken
pub all_taken : (n : NetworkModel) → IsValid n → (last : ℕ) (taken : List ConnectionId) (rest : List Departure) → length rest ≡ 0 → IsRest n last rest taken
    → (c : ℕ) → c < count n → Known (Late n last) taken c
all_taken n good last taken [] none is = all_known n good (Late n last) taken is [] taken refl refl
all_taken n good last taken (d ∷ rest) none is = absurd (omega arith)
