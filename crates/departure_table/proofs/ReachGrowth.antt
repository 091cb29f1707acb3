-- A reach that grows from place to place.
use Rattle.departure_table.proofs.Common.{◌≡◌, ◌≢◌, ℕ, zero, suc, ◌+◌, ◌<◌, ◌==◌, arith, Some, None, List, [], ◌∷◌, ◌++◌, length, true, false, refl, sym, ◌∙◌, subst, inl, inr, All, AllPairs}
use Rattle.departure_table.proofs.Common.{MatchOption, slice_index_or, cases_eq, nat_tests, Query, PlaceId, NetworkModel, SafeFrom, IsNoneSafeFrom, IsGate, HasGates}
use Rattle.departure_table.specs.{Reach.{IsReachRow, row_of_place, places_of, places_up_to}, declared.reach_rows.ReachRow.ReachRow}
use Rattle.std.proofs.lemmas.List.{Quantifiers.all_pairs_push, Elements.All-push, FromFn.{map-range_with_len_more, length-map-range_with_len, get_or-map-range_with_len}}

abbrev place_named : ℕ → PlaceId
place_named k = record { 0 = k }

pub count_up_to : (count : ℕ) → length (places_up_to count) ≡ count
count_up_to count = length-map-range_with_len place_named 0 count

pub place_at : (count k : ℕ) (d : PlaceId) → k < count → slice_index_or (places_up_to count) k d ≡ place_named k
place_at count k d inside = get_or-map-range_with_len place_named 0 count k k d inside (omega arith)

pub places_more : (k : ℕ) → places_up_to (k + 1) ≡ places_up_to k ++ place_named k ∷ []
places_more k = map-range_with_len_more place_named 0 k k (omega arith)

pub are_below : (count : ℕ) → All (λ place. place.0 < count) (places_up_to count)
are_below count k d within = grind (arith, count_up_to, place_at)

-- the gate of each place
pub gate_of : (n m : NetworkModel) (place : ℕ) → HasGates n m (places_of m) → place < length m.change → IsGate n m (length m.change + place) place
gate_of n m place has inside =
    subst (λ (p : PlaceId). IsGate n m (length m.change + place) p.0) (place_at (length m.change) place (place_named 0) inside) (has.gates place (omega (arith, count_up_to (length m.change), inside)))

other_row : (p : ℕ) (rows : List ReachRow) (row : ReachRow) → row.place.0 ≢ p → row_of_place p (rows ++ row ∷ []) ≡ row_of_place p rows
other_row p [] row away = let test : (row.place.0 == p) ≡ false = grind (arith, nat_tests) in rw test refl
other_row p (r ∷ rows) row away = grind (arith, nat_tests, cases_eq, other_row p rows row away)

last_row : (p : ℕ) (rows : List ReachRow) (row : ReachRow) → All (λ r. r.place.0 < p) rows → row.place.0 ≡ p → row_of_place p (rows ++ row ∷ []) ≡ Some row
last_row p [] row before here = let test : (row.place.0 == p) ≡ true = grind (arith, nat_tests) in rw test refl
last_row p (r ∷ rows) row before here =
    let less = before zero r (omega arith) in
    grind (arith, nat_tests, last_row p rows row (λ k d within. before (suc k) d (omega (arith, within))) here)

no_row : (p : ℕ) (rows : List ReachRow) → All (λ r. r.place.0 < p) rows → row_of_place p rows ≡ None
no_row p [] before = refl
no_row p (r ∷ rows) before =
    let less = before zero r (omega arith) in
    grind (arith, nat_tests, no_row p rows (λ k d within. before (suc k) d (omega (arith, within))))

module _ (m : NetworkModel) (q : Query) (start : ℕ) where
  abbrev Answer : ℕ → List ReachRow → Type 0
  Answer p rows = MatchOption (row_of_place p rows) (IsNoneSafeFrom (SafeFrom m p q) start) (IsReachRow m q start)

  -- the reach as far as the places before an end
  pub record IsReachTo (end : ℕ) (rows : List ReachRow) : Type 0 where
    pub answers : (p : ℕ) → p < end → p ≢ q.target.0 → Answer p rows
    pub places : All (λ row. (row.place.0 < end) × (row.place.0 ≢ q.target.0)) rows
    pub rising : AllPairs (λ a b. a.place.0 < b.place.0) rows

  module _ (end : ℕ) (rows : List ReachRow) (t : IsReachTo end rows) where
    before : All (λ (r : ReachRow). r.place.0 < end) rows
    before k d within = (t.places k d within).0

    wider : All (λ (r : ReachRow). (r.place.0 < end + 1) × (r.place.0 ≢ q.target.0)) rows
    wider k d within = let p = t.places k d within in (omega (arith, p.0), p.1)

    -- a place without a row
    pub passed : (end ≢ q.target.0 → IsNoneSafeFrom (SafeFrom m end q) start) → IsReachTo (end + 1) rows
    passed none = record {
      answers = λ p within away. elim (cases_eq p end) [
        | inl last ↦ grind (arith, no_row, before)
        | inr other ↦ t.answers p (omega (arith, within, other)) away
      ];
      places = wider;
      rising = t.rising;
    }

    pub grown : (row : ReachRow) → row.place.0 ≡ end → end ≢ q.target.0 → IsReachRow m q start row → IsReachTo (end + 1) (rows ++ row ∷ [])
    grown row here away is = record {
      answers = λ p within apart. elim (cases_eq p end) [
        | inl last ↦ grind (arith, last_row, before)
        | inr other ↦ grind (arith, other_row)
      ];
      places = All-push (λ (r : ReachRow). (r.place.0 < end + 1) × (r.place.0 ≢ q.target.0)) rows row wider (omega (arith, here), λ same. away (sym here ∙ same));
      rising = all_pairs_push (λ (a b : ReachRow). a.place.0 < b.place.0) rows row t.rising (λ k d within. let b = before k d within in omega (arith, b, here));
    }
