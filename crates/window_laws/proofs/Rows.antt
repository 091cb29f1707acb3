-- What is read of the same row under two numbers.
use Rattle.std.proofs.Common.{◌≡◌, ℕ, ◌+◌, ◌-◌, ◌<◌, ◌++◌, inl, inr, length-append, List, [], length, slice_index_or, Option, Some, Result, Contains, refl, sym, ap, ◌∙◌, subst, arith}
use Rattle.std.proofs.lemmas.{Option.slice_get-get_or, Bool.cases_lt, List.get_or_append_left}
use Rattle.plan_model.specs.{NameLists.AreDistinct, Results.{require, value_or}}
use Rattle.csv_rows.specs.{declared.columns.Column.{Column, TheVariants.TripId}, Tables.{row_count, number_in, index_of, field_at, field, field_of}}
use Rattle.csv_rows.proofs.{IdLemmas.{number-here, found}, ListLemmas.{length-list_below, get-list_below}}
use Rattle.table_files.specs.Loading.{Records}
use Rattle.feed_lists.specs.Trips.{trip_ids}
use Rattle.window_laws.specs.MoreFiles.{IsSameRow, HasRows, AddsRows}

-- of two readings that differ in what follows, and in their faults
pub both : {A B E : Type 0} (P : B → B → Type 0) (d : B) → P d d → (o : Option A) (e f : E) (n m : A → Result B E)
    → ((a : A) → P (value_or d (n a)) (value_or d (m a))) → P (value_or d (require o e n)) (value_or d (require o f m))
both P d base o e f n m each = grind arith

-- of one reading: what follows is read where this part is there
pub read_on : {A B E : Type 0} (P : B → Type 0) (d : B) → P d → (o : Option A) (e : E) (n : A → Result B E) → ((a : A) → o ≡ Some a → P (value_or d (n a)))
    → P (value_or d (require o e n))
read_on P d base o e n each = grind arith

-- a field of the fields of a row
pub field_of-at : (t : Records) (o : Option ℕ) (i : ℕ) → field_of (slice_index_or t (i + 1) []) o ≡ field_at t o i
field_of-at t o i = grind arith

module _ (t u : Records) (i j : ℕ) (same : IsSameRow t u i j) where
  pub same_index : (column : Column) → index_of column u ≡ index_of column t
  same_index column = ap (number_in _) same.headers

  pub same_at : (o : Option ℕ) → field_at u o j ≡ field_at t o i
  same_at o = sym (field_of-at u o j) ∙ ap (λ (fields : List (List ℕ)). field_of fields o) same.fields ∙ field_of-at t o i

  pub same_field : (column : Column) → field u column j ≡ field t column i
  same_field column = ap (λ (o : Option ℕ). field_at u o j) (same_index column) ∙ same_at (index_of column t)

-- the number of an id among trips
module _ (t u : Records) (i j : ℕ) (same : IsSameRow t u i j) (distinct : AreDistinct (trip_ids u)) where
  pub number_too : (id : List ℕ) → number_in id (trip_ids t) ≡ Some i → number_in id (trip_ids u) ≡ Some j
  number_too id is =
      let here = number-here id (trip_ids t) i is in
      let inside : j < length (trip_ids u) = omega (arith, same.there, length-list_below (field u TripId) (row_count u)) in
      let there : slice_index_or (trip_ids u) j [] ≡ id =
      get-list_below (field u TripId) (row_count u) j [] same.there ∙ same_field t u i j same TripId
      ∙ sym (get-list_below (field t TripId) (row_count t) i [] same.here) ∙ here.1 in
      sym (found (trip_ids u) (trip_ids u) id j distinct refl (slice_get-get_or (trip_ids u) j [] inside ∙ ap (λ (x : List ℕ). Some x) there))

pub turned : (t u : Records) (i j : ℕ) → IsSameRow t u i j → IsSameRow u t j i
turned t u i j same = record { here = same.there; there = same.here; headers = sym same.headers; fields = sym same.fields }

-- rows that are appended
module _ (t rows : Records) (some : 0 < length t) where
  kept : (i : ℕ) → i < row_count t → IsSameRow t (t ++ rows) i i
  kept i inside = grind (arith, length-append, get_or_append_left)

  pub appended : HasRows t (t ++ rows)
  appended i inside = (i, kept i inside)

pub appended_of_trips : (trips : List (List ℕ)) (t rows : Records) → 0 < length t → ((k : ℕ) → k < length rows → ¬ Contains trips (field (t ++ rows) TripId (row_count t + k)))
    → AddsRows trips t (t ++ rows)
appended_of_trips trips t rows some others = record {
  each = appended t rows some;
  others = λ j inside. elim (cases_lt j (row_count t)) [
    | inl before ↦ inl (j, kept t rows some j before)
    | inr after ↦
        let k = j - row_count t in
        let is : row_count t + k ≡ j = omega (arith, after) in
        inr (subst (λ (x : ℕ). ¬ Contains trips (field (t ++ rows) TripId x)) is (others k (omega (arith, inside, after, some, length-append t rows))))
  ];
}
