-- The rows of a reach by their places.
use Rattle.departure_table.proofs.Common.{◌≡◌, ◌≢◌, ℕ, zero, suc, ◌<◌, ◌==◌, arith, Option, Some, None, List, [], ◌∷◌, length, true, false, refl, sym, ◌∙◌, subst, inl, inr, All, AllPairs}
use Rattle.departure_table.proofs.Common.{MatchOption, slice_index_or, cases_eq, cases_lt, nat_tests, Query, NetworkModel, IsValid, SafeFrom, IsNoneSafeFrom, end_of_arrivals}
use Rattle.departure_table.specs.{Reach.{IsReach, IsReachRow, row_of_place}, declared.reach_rows.ReachRow.ReachRow}
use Rattle.std.proofs.{Common.ap₂, lemmas.List.Elements.All-cons}

abbrev pub AreRising : List ReachRow → Type 0
AreRising rows = AllPairs (λ a b. a.place.0 < b.place.0) rows

first_here : (p : ℕ) (row : ReachRow) (rows : List ReachRow) → row.place.0 ≡ p → row_of_place p (row ∷ rows) ≡ Some row
first_here p row rows here = let test : (row.place.0 == p) ≡ true = grind (arith, nat_tests) in rw test refl

not_first : (p : ℕ) (row : ReachRow) (rows : List ReachRow) → row.place.0 ≢ p → row_of_place p (row ∷ rows) ≡ row_of_place p rows
not_first p row rows other = let test : (row.place.0 == p) ≡ false = grind (arith, nat_tests) in rw test refl

pub none_of_place : (p : ℕ) (rows : List ReachRow) → All (λ row. row.place.0 ≢ p) rows → row_of_place p rows ≡ None
none_of_place p [] others = refl
none_of_place p (row ∷ rows) others =
    not_first p row rows (others zero row (omega arith)) ∙ none_of_place p rows (λ k d within. others (suc k) d (omega (arith, within)))

-- what holds of each row holds of that of a place
pub of_place : (P : ReachRow → Type 0) (p : ℕ) (rows : List ReachRow) → All P rows → (row : ReachRow) → row_of_place p rows ≡ Some row → (row.place.0 ≡ p) × P row
of_place P p [] all row found = absurd (cc)
of_place P p (x ∷ rows) all row found = elim (cases_eq x.place.0 p) [
  | inl here ↦
      let both : ◌≡◌ {A = Option ReachRow} (Some x) (Some row) = sym (first_here p x rows here) ∙ found in
      let is : x ≡ row = cc in
      subst (λ (r : ReachRow). (r.place.0 ≡ p) × P r) is (here, all zero x (omega arith))
  | inr other ↦ of_place P p rows (λ k d within. all (suc k) d (omega (arith, within))) row (sym (not_first p x rows other) ∙ found)
]

tail_rising : (row : ReachRow) (rows : List ReachRow) → AreRising (row ∷ rows) → AreRising rows
tail_rising row rows rising i j d less within = rising (suc i) (suc j) d (omega (arith, less)) (omega (arith, within))

head_before : (row : ReachRow) (rows : List ReachRow) → AreRising (row ∷ rows) → All (λ r. row.place.0 < r.place.0) rows
head_before row rows rising k d within = rising zero (suc k) d (omega arith) (omega (arith, within))

none_before : (p : ℕ) (row : ReachRow) (rows : List ReachRow) → AreRising (row ∷ rows) → p < row.place.0 → row_of_place p (row ∷ rows) ≡ None
none_before p row rows rising less =
    none_of_place p (row ∷ rows) (All-cons (λ (r : ReachRow). r.place.0 ≢ p) row rows (λ same. absurd (omega (arith, same, less)))
    (λ k d within same. absurd (let later = head_before row rows rising k d within in omega (arith, later, less, same))))

-- each row is the row of its place
row_at : (rows : List ReachRow) → AreRising rows → (k : ℕ) (d : ReachRow) → k < length rows → row_of_place (slice_index_or rows k d).place.0 rows ≡ Some (slice_index_or rows k d)
row_at [] rising k d within = absurd (omega (arith, within))
row_at (row ∷ rows) rising zero d within = first_here row.place.0 row rows refl
row_at (row ∷ rows) rising (suc k) d within =
    let inside : k < length rows = omega (arith, within) in
    let less = head_before row rows rising k d inside in
    not_first (slice_index_or rows k d).place.0 row rows (λ same. absurd (omega (arith, less, same))) ∙ row_at rows (tail_rising row rows rising) k d inside

-- rows with the same row for each place are the same
pub same_rows : (xs ys : List ReachRow) → AreRising xs → AreRising ys → ((p : ℕ) → row_of_place p xs ≡ row_of_place p ys) → xs ≡ ys
same_rows [] [] a b same = refl
same_rows [] (y ∷ ys) a b same = let both = same y.place.0 ∙ first_here y.place.0 y ys refl in absurd (cc)
same_rows (x ∷ xs) [] a b same = let both = sym (first_here x.place.0 x xs refl) ∙ same x.place.0 in absurd (cc)
same_rows (x ∷ xs) (y ∷ ys) a b same = elim (cases_eq x.place.0 y.place.0) [
  | inl here ↦
      let both : ◌≡◌ {A = Option ReachRow} (Some x) (Some y) = sym (first_here x.place.0 x xs refl) ∙ same x.place.0 ∙ first_here x.place.0 y ys (sym here) in
      let is : x ≡ y = cc in
      ap₂ (λ (z : ReachRow) (zs : List ReachRow). z ∷ zs) is (same_rows xs ys (tail_rising x xs a) (tail_rising y ys b) (λ p. elim (cases_lt x.place.0 p) [
        | inl later ↦ sym (not_first p x xs (λ e. absurd (omega (arith, e, later)))) ∙ same p ∙ not_first p y ys (λ e. absurd (omega (arith, e, later, here)))
        | inr before ↦
            none_of_place p xs (λ k d within e. absurd (let less = head_before x xs a k d within in omega (arith, less, e, before)))
            ∙ sym (none_of_place p ys (λ k d within e. absurd (let less = head_before y ys b k d within in omega (arith, less, e, before, here))))
      ]))
  | inr other ↦ elim (cases_lt x.place.0 y.place.0) [
    | inl less ↦ let both = sym (first_here x.place.0 x xs refl) ∙ same x.place.0 ∙ none_before x.place.0 y ys b less in absurd (cc)
    | inr more ↦
        let less : y.place.0 < x.place.0 = omega (arith, more, other) in
        let both = sym (none_before y.place.0 x xs a less) ∙ same y.place.0 ∙ first_here y.place.0 y ys refl in
        absurd (cc)
  ]
]

module _ (m : NetworkModel) (q : Query) (start : ℕ) where
  -- each row says what it says of its place
  pub each_row : (rows : List ReachRow) → IsReach m q start rows → All (IsReachRow m q start) rows
  each_row rows is k d within =
      let row = slice_index_or rows k d in
      let at = is.places k d within in
      subst (λ (o : Option ReachRow). MatchOption o (IsNoneSafeFrom (SafeFrom m row.place.0 q) start) (IsReachRow m q start)) (row_at rows is.rising k d within)
      (is.answers row.place.0 at.0 at.1)

  -- at its latest moment a connection is boarded
  pub leaves_early : IsValid m → (row : ReachRow) → row.place.0 ≢ q.target.0 → IsReachRow m q start row → row.latest.0 < end_of_arrivals
  leaves_early v row away is = grind arith
