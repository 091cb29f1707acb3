-- A table that grows from look to look.
use Rattle.std.proofs.lemmas.{Grind.common_steps, List.{Quantifiers.all_pairs_push, Elements.All-push}}
use Rattle.departure_table.proofs.Common.{◌≡◌, ℕ, zero, suc, ◌+◌, ◌<◌, ◌≤◌, arith, Some, None, List, [], ◌∷◌, ◌++◌, true, refl, ⊎_elim, All, AllPairs, MatchOption, nat_le, cases_lt, nat_tests}
use Rattle.departure_table.proofs.Common.{NetworkModel, Tree, DepartureRow, IsNoneSafeFrom, IsBestFrom, IsDepartureRow, IsTable, first_row_by}

row_past : (moment : ℕ) (rows : List DepartureRow) → All (λ r. r.by.0 < moment) rows → first_row_by moment rows ≡ None
row_past moment [] few = refl
row_past moment (r ∷ rows) few =
    let less = few zero r (omega arith) in
    grind (arith, nat_le, nat_tests, row_past moment rows (λ k d l. few (suc k) d (omega arith)))

row_last : (moment : ℕ) (rows : List DepartureRow) (row : DepartureRow) → All (λ r. r.by.0 < moment) rows → moment ≤ row.by.0 → first_row_by moment (rows ++ row ∷ []) ≡ Some row
row_last moment [] row few within = let test : nat_le moment row.by.0 ≡ true = grind (arith, nat_tests) in rw test refl
row_last moment (r ∷ rows) row few within =
    let less = few zero r (omega arith) in
    grind (arith, nat_le, nat_tests, row_last moment rows row (λ k d l. few (suc k) d (omega arith)) within)

row_kept : (moment : ℕ) (rows : List DepartureRow) (row found : DepartureRow) → first_row_by moment rows ≡ Some found → first_row_by moment (rows ++ row ∷ []) ≡ Some found
row_kept moment [] row found is = absurd (cc)
row_kept moment (r ∷ rows) row found is = grind (arith, nat_tests, cases_lt, row_kept moment rows row found)

-- the table as far as the moments before the next look
pub record IsTableTo (m : NetworkModel) (Safe : ℕ → Tree → Type 0) (first last next : ℕ) (rows : List DepartureRow) : Type 0 where
  pub in_order : first ≤ next
  pub found : (moment : ℕ) → first ≤ moment → moment < next → (row : DepartureRow) × (first_row_by moment rows ≡ Some row) × IsBestFrom m Safe moment row
  pub departures : All (IsDepartureRow m) rows
  pub from_first : All (λ row. first ≤ row.by.0) rows
  pub rising : AllPairs (λ a b. (a.by.0 < b.by.0) × (a.by.0 < last)) rows
  pub before : All (λ row. row.by.0 < next) rows

module _ (m : NetworkModel) (Safe : ℕ → Tree → Type 0) (first last : ℕ) where
  module _ (next : ℕ) (rows : List DepartureRow) (t : IsTableTo m Safe first last next rows) where
    module _ (row : DepartureRow) (soon : next ≤ last) (ahead : next ≤ row.by.0) (departure : IsDepartureRow m row)
        (best : (moment : ℕ) → next ≤ moment → moment ≤ row.by.0 → IsBestFrom m Safe moment row) where
      abbrev Found : ℕ → Type 0
      Found moment = (r : DepartureRow) × (first_row_by moment (rows ++ row ∷ []) ≡ Some r) × IsBestFrom m Safe moment r

      found_more : (moment : ℕ) → first ≤ moment → moment < row.by.0 + 1 → Found moment
      found_more moment from less =
          ⊎_elim (λ (old : moment < next). let f = t.found moment from old in (f.0, row_kept moment rows row f.0 f.1, f.2))
          (λ (new : next ≤ moment). (row, row_last moment rows row (λ k d h. let b = t.before k d h in omega arith) (omega arith), best moment new (omega arith)))
          (cases_lt moment next)

      pub grown : IsTableTo m Safe first last (row.by.0 + 1) (rows ++ row ∷ [])
      grown = grind (arith, common_steps, found_more, All-push, all_pairs_push)

    abbrev Answer : ℕ → Type 0
    Answer moment = MatchOption (first_row_by moment rows) (IsNoneSafeFrom Safe moment) (IsBestFrom m Safe moment)

    is_found : (moment : ℕ) → first ≤ moment → moment < next → Answer moment
    is_found moment from less = let f = t.found moment from less in let e = f.1 in rw e f.2

    is_past : (moment : ℕ) → next ≤ moment → IsNoneSafeFrom Safe moment → Answer moment
    is_past moment from none = let e = row_past moment rows (λ k d h. let b = t.before k d h in omega arith) in rw e none

    whole : ((moment : ℕ) → first ≤ moment → moment ≤ last → Answer moment) → IsTable m Safe first last rows
    whole answers = record { answers = answers; departures = t.departures; from_first = t.from_first; rising = t.rising }

    pub ends_after : last < next → IsTable m Safe first last rows
    ends_after over = whole (λ moment from within. is_found moment from (omega arith))

    pub ends_with_none : ((moment : ℕ) → next ≤ moment → IsNoneSafeFrom Safe moment) → IsTable m Safe first last rows
    ends_with_none none = grind (arith, whole, is_found, is_past, cases_lt)
