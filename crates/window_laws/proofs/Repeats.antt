-- A trip repeats as it did where other trips have more rows of frequencies.
use Rattle.std.proofs.Common.{◌≡◌, ℕ, ◌+◌, ◌<◌, ◌==◌, Bool, true, false, List, [], ◌∷◌, Option, Some, None, Result, Ok, Err, Contains, inl, inr, refl, sym, ap, ◌∙◌, subst, arith}
use Rattle.std.proofs.lemmas.Bool.{cond_both, eqb-true, eq-eqb}
use Rattle.std.specs.{List.filter, Result.result_err}
use Rattle.plan_model.proofs.Lists.{All-from_contains, Contains-cons_cases, Contains-head, Contains-tail, Contains-nil, Contains-map, Contains-from_map}
use Rattle.plan_model.specs.{NameLists.AreDistinct, Results.{require, value_or}}
use Rattle.clock_text.specs.Times.{time_at}
use Rattle.csv_rows.specs.{Ids.name_in, declared.{columns.Column.TheVariants.{TripId, StartTime, EndTime, HeadwaySecs, ExactTimes}, feed_tables.FeedFault.FeedFault}, Tables.row_count}
use Rattle.csv_rows.specs.{Tables.{number_in, field}, Lists.list_below}
use Rattle.csv_rows.proofs.{IdLemmas.number-here, RowLemmas.name_text, FirstLemmas.{none-both, none-each}, ListLemmas.{length-list_below, get-list_below}}
use Rattle.table_files.specs.{Loading.{Records, loaded_rows}, declared.loading.Loaded.{Loaded, TheVariants.{Absent, NoRecord, Found}}}
use Rattle.feed_lists.specs.Trips.{trip_ids}
use Rattle.trip_frequencies.specs.{declared.frequencies.FrequencyRow.FrequencyRow, Frequencies.{frequency_from, no_frequency, frequency_rows, repeats_of, fault_of_frequencies, bad_frequency}}
use Rattle.trip_frequencies.specs.Frequencies.{headway_in, is_exact_in}
unfoldable use Rattle.trip_frequencies.specs.Frequencies.{frequency_at, frequencies_fault}
use Rattle.window_laws.specs.{MoreFiles.{IsSameRow, AddsRows}, MoreTrips.{on_line, RepeatToo}}
use Rattle.window_laws.proofs.{Types.TripFrequency, Rows.{turned, number_too, same_field}}

module _ {A : Type 0} (p : A → Bool) where
  filter_has : (xs : List A) (x : A) → Contains xs x → p x ≡ true → Contains (filter p xs) x
  filter_has [] x has is = absurd (Contains-nil x has)
  filter_has (y ∷ ys) x has is = cond_both (p y) (y ∷ filter p ys) (filter p ys) (λ zs. Contains zs x)
      (λ taken. elim (Contains-cons_cases y ys x has) [
        | inl same ↦ subst (Contains (y ∷ filter p ys)) same (Contains-head y (filter p ys))
        | inr there ↦ Contains-tail y (filter p ys) x (filter_has ys x there is)
      ])
      (λ left. elim (Contains-cons_cases y ys x has) [
        | inl same ↦ absurd (let no : p x ≡ false = ap p (sym same) ∙ left in cc)
        | inr there ↦ filter_has ys x there is
      ])

  filter_from : (xs : List A) (x : A) → Contains (filter p xs) x → Contains xs x × (p x ≡ true)
  filter_from [] x has = absurd (Contains-nil x has)
  filter_from (y ∷ ys) x found = cond_both (p y) (y ∷ filter p ys) (filter p ys) (λ zs. Contains zs x → Contains (y ∷ ys) x × (p x ≡ true))
      (λ taken has. elim (Contains-cons_cases y (filter p ys) x has) [
        | inl same ↦ (subst (Contains (y ∷ ys)) same (Contains-head y ys), ap p (sym same) ∙ taken)
        | inr there ↦ let rest = filter_from ys x there in (Contains-tail y ys x rest.0, rest.1)
      ])
      (λ left has. let rest = filter_from ys x has in (Contains-tail y ys x rest.0, rest.1)) found

below_has : {A : Type 0} (f : ℕ → A) (n k : ℕ) → k < n → Contains (list_below f n) (f k)
below_has f n k inside = (k, omega (arith, inside, length-list_below f n), get-list_below f n k (f k) inside)

below_from : {A : Type 0} (f : ℕ → A) (n : ℕ) (x : A) → Contains (list_below f n) x → (k : ℕ) × (k < n) × (f k ≡ x)
below_from f n x has = grind (arith, length-list_below, get-list_below)

-- of two readings that differ in what follows, and in their faults
both : {A B E : Type 0} (P : Result B E → Result B E → Type 0) → ((e f : E) → P (Err e) (Err f)) → (o : Option A) (e f : E) (n m : A → Result B E)
    → ((a : A) → P (n a) (m a)) → P (require o e n) (require o f m)
both P base f e is n m each = grind arith

read_on : {A B E : Type 0} (P : Result B E → Type 0) → ((e : E) → P (Err e)) → (o : Option A) (e : E) (n : A → Result B E) → ((a : A) → o ≡ Some a → P (n a)) → P (require o e n)
read_on P base o e n each = grind arith

abbrev Read : Type 0
Read = Result TripFrequency FeedFault

-- if the one is a row of this trip, the other is one of that trip with the same times
abbrev Agree : (k l : ℕ) → Read → Read → Type 0
Agree k l r s = (x : TripFrequency) → r ≡ Ok x → (x.trip ≡ k) × ((y : TripFrequency) × (s ≡ Ok y) × (y.trip ≡ l) × (y.row ≡ on_line y.row.line x.row))

abbrev IsReadToo : (i j : ℕ) → Read → Read → Type 0
IsReadToo i j r s = (x : TripFrequency) → r ≡ Ok x → x.trip ≡ i → (y : TripFrequency) × (s ≡ Ok y) × (y.trip ≡ j) × (y.row ≡ on_line y.row.line x.row)

no_row : {P : Type 0} (e : FeedFault) (x : TripFrequency) → Err e ≡ Ok x → P
no_row e x is = absurd (cc)

abbrev read_as : TripFrequency → Read
read_as x = Ok x

same_read : (x y : TripFrequency) → read_as x ≡ read_as y → x ≡ y
same_read x y is = cc

module _ (line other : ℕ) (start end headway exact : List ℕ) where
  by_number : (i j : ℕ) (o p : Option ℕ) (e f : FeedFault) (n m : ℕ → Read) → ((k l : ℕ) → Agree k l (n k) (m l)) → (o ≡ Some i → p ≡ Some j)
      → IsReadToo i j (require o e n) (require p f m)
  by_number i j None p e f n m all then_too = λ x read of_trip. no_row e x read
  by_number i j (Some k) None e f n m all then_too = λ x read of_trip.
      let one = all k k x read in
      let here : k ≡ i = sym one.0 ∙ of_trip in
      let no : None ≡ Some j = then_too (ap (λ (x : ℕ). Some x) here) in absurd (cc)
  by_number i j (Some k) (Some l) e f n m all then_too = λ x read of_trip.
      let one = all k l x read in
      let here : k ≡ i = sym one.0 ∙ of_trip in
      let there : Some l ≡ Some j = then_too (ap (λ (x : ℕ). Some x) here) in
      let is : l ≡ j = cc in
      (one.1.0, one.1.1, one.1.2 ∙ is, one.1.3)

  read_too : (trips others : List (List ℕ)) (i j : ℕ) (trip : List ℕ) → ((id : List ℕ) → number_in id trips ≡ Some i → number_in id others ≡ Some j)
      → IsReadToo i j (frequency_from trips line trip start end headway exact) (frequency_from others other trip start end headway exact)
  read_too trips others i j trip too =
      both (IsReadToo i j) (λ e f x read. no_row e x read) (name_in trip) _ _ _ _ (λ id.
      by_number i j (number_in id trips) (number_in id others) _ _ _ _ (λ k l.
      let nothing : (e f : FeedFault) → Agree k l (Err e) (Err f) = λ e f x read. no_row e x read in
      both (Agree k l) nothing (time_at start) _ _ _ _ (λ from.
      both (Agree k l) nothing (time_at end) _ _ _ _ (λ to.
      both (Agree k l) nothing (headway_in headway) _ _ _ _ (λ each.
      both (Agree k l) nothing (is_exact_in exact) _ _ _ _ (λ kind x read.
      let is = same_read _ x read in
      (sym (ap (λ (z : TripFrequency). z.trip) is), (_, refl, refl, ap (λ (z : TripFrequency). on_line other z.row) is))))))) (too id))

  -- the trip of a row is that which it names
  abbrev IsNamed : (names : List (List ℕ)) → (trip : List ℕ) → (i : ℕ) → Read → Type 0
  IsNamed names trip i r = (x : TripFrequency) → r ≡ Ok x → x.trip ≡ i → number_in trip names ≡ Some i

  read_named : (trips : List (List ℕ)) (i : ℕ) (trip : List ℕ) → IsNamed trips trip i (frequency_from trips line trip start end headway exact)
  read_named trips i trip =
      let nothing : (e : FeedFault) → IsNamed trips trip i (Err e) = λ e x read. no_row e x read in
      read_on (IsNamed trips trip i) nothing (name_in trip) _ _ (λ id is.
      read_on (IsNamed trips trip i) nothing (number_in id trips) _ _ (λ k here.
      let there : number_in trip trips ≡ Some k = ap (λ (text : List ℕ). number_in text trips) (sym (name_text trip id is)) ∙ here in
      read_on (IsNamed trips trip i) nothing (time_at start) _ _ (λ from _.
      read_on (IsNamed trips trip i) nothing (time_at end) _ _ (λ to _.
      read_on (IsNamed trips trip i) nothing (headway_in headway) _ _ (λ each _.
      read_on (IsNamed trips trip i) nothing (is_exact_in exact) _ _ (λ kind _ x read of_trip.
      let is = same_read _ x read in
      there ∙ ap (λ (z : ℕ). Some z) (ap (λ (z : TripFrequency). z.trip) is ∙ of_trip)))))))

-- each row is read
abbrev AreRead : List (List ℕ) → Records → Type 0
AreRead trips t = (p : ℕ) → p < row_count t → result_err (frequency_at trips t p) ≡ None

pub read_of : (trips : List (List ℕ)) (l : Loaded) → fault_of_frequencies trips l ≡ None → AreRead trips (loaded_rows l)
unfolding frequencies_fault
read_of trips (Found t) none = λ p inside. none-each (bad_frequency trips t) (row_count t) (none-both _ _ (none-both _ _ none).1).0 p inside
read_of trips Absent none = λ p inside. absurd (omega (arith, inside))
read_of trips NoRecord none = λ p inside. absurd (omega (arith, inside))

value_is : (r : Read) → result_err r ≡ None → (x : TripFrequency) → value_or no_frequency r ≡ x → r ≡ Ok x
value_is r none x is = grind arith

module _ (trips others t u : Records) (i j : ℕ) (one : IsSameRow trips others i j) (unique : AreDistinct (trip_ids others)) where
  row_too : (p q : ℕ) → IsSameRow t u p q → IsReadToo i j (frequency_at (trip_ids trips) t p) (frequency_at (trip_ids others) u q)
  unfolding frequency_at
  row_too p q same = rw (
    same_field t u p q same TripId,
    same_field t u p q same StartTime,
    same_field t u p q same EndTime,
    same_field t u p q same HeadwaySecs,
    same_field t u p q same ExactTimes,
  ) (read_too (p + 2) (q + 2) (field t StartTime p) (field t EndTime p) (field t HeadwaySecs p) (field t ExactTimes p) (trip_ids trips) (trip_ids others) i j (field t TripId p)
      (number_too trips others i j one unique))

  row_named : (q : ℕ) (y : TripFrequency) → frequency_at (trip_ids others) u q ≡ Ok y → y.trip ≡ j → number_in (field u TripId q) (trip_ids others) ≡ Some j
  unfolding frequency_at
  row_named q y read of_trip =
      read_named (q + 2) 0 (field u StartTime q) (field u EndTime q) (field u HeadwaySecs q) (field u ExactTimes q) (trip_ids others) j (field u TripId q) y read of_trip

-- from what each row has beside it
repeat_too : (fs others : List FrequencyRow) → ((r : FrequencyRow) → Contains fs r → (line : ℕ) × Contains others (on_line line r))
    → ((r : FrequencyRow) → Contains others r → (x : FrequencyRow) × Contains fs x) → RepeatToo fs others
repeat_too [] [] each back = tt
repeat_too [] (other ∷ others) each back = let (x, has) = back other (Contains-head other others) in Contains-nil x has
repeat_too (row ∷ fs) others each back = All-from_contains (λ r. (line : ℕ) × Contains others (on_line line r)) (row ∷ fs) each

module _ (trips others t u : Records) (i j : ℕ) (one : IsSameRow trips others i j) (unique : AreDistinct (trip_ids others)) (alone : AreDistinct (trip_ids trips))
    (adds : AddsRows (trip_ids trips) t u) (read : AreRead (trip_ids trips) t) (reads : AreRead (trip_ids others) u) where
  abbrev rows : List TripFrequency
  rows = frequency_rows (trip_ids trips) t

  abbrev more : List TripFrequency
  more = frequency_rows (trip_ids others) u

  -- where a row of a trip is from
  from_row : (trips t : Records) → AreRead (trip_ids trips) t → (i : ℕ) (r : FrequencyRow) → Contains (repeats_of (frequency_rows (trip_ids trips) t) i) r
      → (p : ℕ) × (p < row_count t) × ((x : TripFrequency) × (frequency_at (trip_ids trips) t p ≡ Ok x) × (x.trip ≡ i) × (x.row ≡ r))
  from_row trips t read i r has =
      let (x, kept, is) = Contains-from_map (λ (z : TripFrequency). z.row) (filter (λ (z : TripFrequency). z.trip == i) (frequency_rows (trip_ids trips) t)) r has in
      let (here, of_trip) = filter_from (λ (z : TripFrequency). z.trip == i) (frequency_rows (trip_ids trips) t) x kept in
      let (p, inside, value) = below_from (λ k. value_or no_frequency (frequency_at (trip_ids trips) t k)) (row_count t) x here in
      (p, inside, (x, value_is (frequency_at (trip_ids trips) t p) (read p inside) x value, eqb-true x.trip i of_trip, is))

  to_row : (trips t : Records) (i p : ℕ) (x : TripFrequency) → p < row_count t → frequency_at (trip_ids trips) t p ≡ Ok x → x.trip ≡ i
      → Contains (repeats_of (frequency_rows (trip_ids trips) t) i) x.row
  to_row trips t i p x inside is of_trip =
      let has = below_has (λ k. value_or no_frequency (frequency_at (trip_ids trips) t k)) (row_count t) p inside in
      let same : value_or no_frequency (frequency_at (trip_ids trips) t p) ≡ x = ap (value_or no_frequency) is in
      Contains-map (λ (z : TripFrequency). z.row) (filter (λ (z : TripFrequency). z.trip == i) (frequency_rows (trip_ids trips) t)) x
      (filter_has (λ (z : TripFrequency). z.trip == i) (frequency_rows (trip_ids trips) t) x (subst (Contains (frequency_rows (trip_ids trips) t)) same has) (eq-eqb x.trip i of_trip))

  pub repeats_too : RepeatToo (repeats_of rows i) (repeats_of more j)
  repeats_too = repeat_too (repeats_of rows i) (repeats_of more j)
      (λ r has.
      let (p, inside, found) = from_row trips t read i r has in
      let (q, same) = adds.each p inside in
      let (y, is, of_trip, line) = row_too trips others t u i j one unique p q same found.0 found.1 found.2 in
      (y.row.line, subst (Contains (repeats_of more j)) (line ∙ ap (on_line y.row.line) found.3) (to_row others u j q y same.there is of_trip)))
      (λ r has.
      let (q, inside, found) = from_row others u reads j r has in
      elim (adds.others q inside) [
        | inl same ↦
            let (x, is, of_trip, line) = row_too others trips u t j i (turned trips others i j one) alone q same.0 (turned t u same.0 q same.1) found.0 found.1 found.2 in
            (x.row, to_row trips t i same.0 x same.1.here is of_trip)
        | inr none ↦
            let here = number-here (field u TripId q) (trip_ids others) j (row_named trips others t u i j one unique q found.0 found.1 found.2) in
            let is : field others TripId j ≡ field u TripId q = sym (get-list_below (field others TripId) (row_count others) j [] one.there) ∙ here.1 in
            let was : field trips TripId i ≡ field u TripId q = sym (same_field trips others i j one TripId) ∙ is in
            absurd (none (
              i,
              omega (arith, one.here, length-list_below (field trips TripId) (row_count trips)),
              get-list_below (field trips TripId) (row_count trips) i (field u TripId q) one.here ∙ was,
            ))
      ])
