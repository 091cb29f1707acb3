-- The rows with a new one are those that a walk along them gives.
use Rattle.stop_profile.proofs.Common.{◌≡◌, ℕ, ◌<◌, ◌≤◌, Bool, true, false, cond, ltb, leb, List, [], ◌∷◌, map, Option, arith, refl, ap, filter, lt-ltb, le-ltb, le-leb, AllByRecursion, lt-leb}
use Rattle.stop_profile.proofs.{Common.{Scoring, ScoreLaws, Row, rows_with_new, rows_with_new_by, lower_row, RowsRise, row_in_time, LookStep}, Along.inserted_along, InsertCases.insert_case}
use Rattle.stop_profile.proofs.{Rising.{AllAfter, All-inserted_along, rises-inserted_along}, Looks.{picked_in_time, picked_holds, look_step_along}}

-- where all fail a test, none is kept
filter-none : {X : Type 0} (P : X → Type 0) (p : X → Bool) → ((x : X) → P x → p x ≡ false) → (xs : List X) → AllByRecursion P xs → filter p xs ≡ []
filter-none P p fails [] all = refl
filter-none P p fails (x ∷ xs) all = rw (fails x all.0) (filter-none P p fails xs all.1)

-- where all pass it, all are
filter-all : {X : Type 0} (P : X → Type 0) (p : X → Bool) → ((x : X) → P x → p x ≡ true) → (xs : List X) → AllByRecursion P xs → filter p xs ≡ xs
filter-all P p passes [] all = refl
filter-all P p passes (x ∷ xs) all = rw (passes x all.0) (ap (λ more. x ∷ more) (filter-all P p passes xs all.1))

map-same : {X : Type 0} (P : X → Type 0) (f : X → X) → ((x : X) → P x → f x ≡ x) → (xs : List X) → AllByRecursion P xs → map f xs ≡ xs
map-same P f same [] all = refl
map-same P f same (x ∷ xs) all = rw (same x all.0) (ap (λ more. x ∷ more) (map-same P f same xs all.1))

cond-cons : {X : Type 0} (b : Bool) (x : X) (xs ys : List X) → cond b (x ∷ xs) (x ∷ ys) ≡ x ∷ cond b xs ys
cond-cons b x xs ys = grind arith

module _ {V : Type 0} (scoring : Scoring V) where
  module _ (new row : Row V) (rows : List (Row V)) where
    -- a row before the position
    module _ (before : row.by.0 < new.by.0) where
      by_before : ltb row.by.0 new.by.0 ≡ true
      by_before = lt-ltb row.by.0 new.by.0 before

      not_behind : ltb new.by.0 row.by.0 ≡ false
      not_behind = le-ltb new.by.0 row.by.0 (omega arith)

      -- a better one is kept
      with_new-better : scoring.rank row.value < scoring.rank new.value → (o : Option (Row V)) → row_in_time new.by.0 rows ≡ o
          → rows_with_new_by scoring new (row ∷ rows) o ≡ lower_row scoring.lowered row new ∷ rows_with_new_by scoring new rows o
      with_new-better better o is = grind (arith, by_before, not_behind, lt-ltb, lt-leb, leb, le-leb, picked_in_time, cond-cons, ltb)

      -- another is taken out
      with_new-other : ((a b : V) → scoring.rank (scoring.lowered a b) ≡ scoring.rank a) → scoring.rank new.value ≤ scoring.rank row.value → AllAfter scoring.rank row rows → (o : Option (Row V))
          → row_in_time new.by.0 rows ≡ o
          → rows_with_new_by scoring new (row ∷ rows) o ≡ rows_with_new_by scoring (lower_row scoring.lowered new row) rows o
      with_new-other same_rank worse after o is = grind (arith, ltb, le-ltb, leb, le-leb, filter-none, by_before, not_behind, lt-ltb, picked_holds)

    -- a row from the position on
    module _ (later : new.by.0 ≤ row.by.0) (after : AllAfter scoring.rank row rows) where
      in_time : leb new.by.0 row.by.0 ≡ true
      in_time = le-leb new.by.0 row.by.0 later

      -- it gives way to a better new one
      with_new-first : scoring.rank new.value < scoring.rank row.value
          → rows_with_new scoring new (row ∷ rows) ≡ lower_row scoring.lowered new row ∷ cond (ltb new.by.0 row.by.0) (row ∷ rows) rows
      with_new-first better = grind (arith, filter-none, filter-all, lt-ltb, in_time, le-ltb)

      -- or keeps one out that is not
      with_new-dropped : scoring.rank row.value ≤ scoring.rank new.value → rows_with_new scoring new (row ∷ rows) ≡ lower_row scoring.lowered row new ∷ rows
      with_new-dropped worse = grind (arith, leb, le-leb, map-same, lt-leb, in_time, le-ltb)

  pub rows_with_new-along : ((a b : V) → scoring.rank (scoring.lowered a b) ≡ scoring.rank a) → (new : Row V) (rows : List (Row V)) → RowsRise scoring.rank rows
      → rows_with_new scoring new rows ≡ inserted_along scoring new rows
  rows_with_new-along same_rank new [] rises = refl
  rows_with_new-along same_rank new (row ∷ rows) rises =
      grind (arith, insert_case, lt-leb, with_new-better, with_new-other, with_new-first, le-ltb, lt-ltb, with_new-dropped, rows_with_new-along same_rank new rows rises.1, rows_with_new-along same_rank (lower_row scoring.lowered new row) rows rises.1)

  -- an insert keeps the rows rising
  pub rises-rows_with_new : ((a b : V) → scoring.rank (scoring.lowered a b) ≡ scoring.rank a) → (new : Row V) (rows : List (Row V)) → RowsRise scoring.rank rows → RowsRise scoring.rank (rows_with_new scoring new rows)
  rises-rows_with_new same_rank new rows rises = rw (rows_with_new-along same_rank new rows rises) (rises-inserted_along scoring same_rank new rows rises)

module _ {V : Type 0} {scoring : Scoring V} (laws : ScoreLaws scoring) where
  -- what an insert does to a look
  pub look_step : (arrival : ℕ) (new : Row V) (rows : List (Row V)) → RowsRise scoring.rank rows
      → LookStep scoring arrival new (row_in_time arrival rows) (row_in_time arrival (rows_with_new scoring new rows))
  look_step arrival new rows rises = rw (rows_with_new-along scoring laws.lowered_rank new rows rises) (look_step_along laws arrival new rows rises)

  -- gaps stay within a bound
  pub gaps-rows_with_new : (most : ℕ) (new : Row V) (rows : List (Row V)) → RowsRise scoring.rank rows → scoring.gap new.value ≤ most
      → AllByRecursion (λ row. scoring.gap row.value ≤ most) rows → AllByRecursion (λ row. scoring.gap row.value ≤ most) (rows_with_new scoring new rows)
  gaps-rows_with_new most new rows rises here all = grind (arith, rows_with_new-along, laws.lowered_rank, All-inserted_along, laws.lowered_gap)
