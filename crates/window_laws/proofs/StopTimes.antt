-- The kept rows of a trip are the same where other trips have more rows.
use Rattle.std.proofs.Common.{◌≡◌, ℕ, ◌+◌, ◌<◌, ◌≤◌, List, [], length, slice_index_or, is_some, Option, Some, None, Result, inl, inr, refl, sym, ap, ap₂, ◌∙◌, subst, arith, ⊎_elim}
use Rattle.std.proofs.lemmas.{Bool.cases_lt, List.ext_get_or}
use Rattle.plan_model.specs.{NameLists.AreDistinct, Results.{require, value_or}}
use Rattle.clock_text.specs.Digits.{whole_of}
use Rattle.csv_rows.specs.{Ids.{name_in, text_in}, declared.columns.Column.TheVariants.TripId, Tables.{header, row_count, number_in, field, field_of}}
use Rattle.csv_rows.proofs.{IdLemmas.number-here, RowLemmas.name_text, ListLemmas.{length-list_below, get-list_below}}
use Rattle.table_files.specs.Loading.{Records}
use Rattle.feed_lists.specs.{Stops.stop_ids, Trips.trip_ids}
use Rattle.stop_times.specs.{declared.rows.StopRow.StopRow, StopTimes.{TripsAndStops, stop_number_in, timed_from, timed_of, columns_of, time_columns, no_row, timed_rows, row_at, allows_in}}
use Rattle.stop_times.specs.{StopTimes.time_in, Visits.{no_visit, AreStopTimes}}
unfoldable use Rattle.stop_times.specs.StopTimes.{timed_at}
use Rattle.gtfs_tables.specs.Feeds.{named_in}
use Rattle.journey_problem.proofs.OneOrder.{Enumerates, agree, same_size}
use Rattle.window_laws.proofs.{Types.TimedRow, Rows.{both, read_on, turned, number_too, same_field, field_of-at}}
use Rattle.window_laws.specs.MoreFiles.{IsSameRow, AddsRows}

-- rows of two trips that are else the same
abbrev Agree : (k l : ℕ) → TimedRow → TimedRow → Type 0
Agree k l a b = (a.visit ≡ b.visit) × (a.sequence ≡ b.sequence) × ((v : StopRow) → a.visit ≡ Some v → (a.trip ≡ k) × (b.trip ≡ l))

-- if the one is a kept row of this trip, the other is the same one of that trip
abbrev pub IsKeptToo : (i j : ℕ) → TimedRow → TimedRow → Type 0
IsKeptToo i j a b = (v : StopRow) → a.visit ≡ Some v → a.trip ≡ i → (b.visit ≡ Some v) × (b.trip ≡ j) × (b.sequence ≡ a.sequence)

none_kept : (v : StopRow) → no_row.visit ≡ Some v → ⊥
none_kept v is = cc

module _ (line other : ℕ) (stop sequence arrival departure pickup drop_off : List ℕ) where
  by_number : {E : Type 0} (i j : ℕ) (o p : Option ℕ) (e f : E) (n m : ℕ → Result TimedRow E) → ((k l : ℕ) → Agree k l (value_or no_row (n k)) (value_or no_row (m l)))
      → (o ≡ Some i → p ≡ Some j) → IsKeptToo i j (value_or no_row (require o e n)) (value_or no_row (require p f m))
  by_number i j None p e f n m all then_too = λ v kept of_trip. absurd (none_kept v kept)
  by_number i j (Some k) None e f n m all then_too = λ v kept of_trip.
      let one = all k k in
      let here : k ≡ i = sym (one.2 v kept).0 ∙ of_trip in
      let no : None ≡ Some j = then_too (ap (λ (x : ℕ). Some x) here) in absurd (cc)
  by_number i j (Some k) (Some l) e f n m all then_too = λ v kept of_trip. grind arith

  kept_too : (stops trips others : Records) (i j : ℕ) (trip : List ℕ) → ((id : List ℕ) → number_in id (trip_ids trips) ≡ Some i → number_in id (trip_ids others) ≡ Some j)
      → IsKeptToo i j (value_or no_row (timed_from (named_in trips stops) line trip stop sequence arrival departure pickup drop_off))
      (value_or no_row (timed_from (named_in others stops) other trip stop sequence arrival departure pickup drop_off))
  kept_too stops trips others i j trip too =
      both (IsKeptToo i j) no_row (λ v kept. absurd (none_kept v kept)) (name_in trip) _ _ _ _ (λ id.
      by_number i j (number_in id (trip_ids trips)) (number_in id (trip_ids others)) _ _ _ _ (λ k l.
      let nothing : Agree k l no_row no_row = (refl, refl, λ v kept. absurd (none_kept v kept)) in
      both (Agree k l) no_row nothing (text_in stop) _ _ _ _ (λ name.
      both (Agree k l) no_row nothing (stop_number_in (stop_ids stops) name) _ _ _ _ (λ number.
      both (Agree k l) no_row nothing (whole_of 999999999 sequence) _ _ _ _ (λ order.
      both (Agree k l) no_row nothing (time_in arrival) _ _ _ _ (λ from.
      both (Agree k l) no_row nothing (time_in departure) _ _ _ _ (λ to.
      both (Agree k l) no_row nothing (allows_in pickup) _ _ _ _ (λ board.
      both (Agree k l) no_row nothing (allows_in drop_off) _ _ _ _ (λ exit. (refl, refl, λ v kept. (refl, refl)))))))))) (too id))

  -- the trip of a kept row is that which it names
  abbrev IsNamed : (names : List (List ℕ)) → (trip : List ℕ) → (i : ℕ) → TimedRow → Type 0
  IsNamed names trip i a = (v : StopRow) → a.visit ≡ Some v → a.trip ≡ i → number_in trip names ≡ Some i

  kept_named : (named : TripsAndStops) (i : ℕ) (trip : List ℕ)
      → IsNamed named.trips trip i (value_or no_row (timed_from named line trip stop sequence arrival departure pickup drop_off))
  kept_named named i trip =
      let nothing : IsNamed named.trips trip i no_row = λ v kept. absurd (none_kept v kept) in
      read_on (IsNamed named.trips trip i) no_row nothing (name_in trip) _ _ (λ id is.
      read_on (IsNamed named.trips trip i) no_row nothing (number_in id named.trips) _ _ (λ k here.
      let there : number_in trip named.trips ≡ Some k = ap (λ (text : List ℕ). number_in text named.trips) (sym (name_text trip id is)) ∙ here in
      read_on (IsNamed named.trips trip i) no_row nothing (text_in stop) _ _ (λ name _.
      read_on (IsNamed named.trips trip i) no_row nothing (stop_number_in named.stops name) _ _ (λ number _.
      read_on (IsNamed named.trips trip i) no_row nothing (whole_of 999999999 sequence) _ _ (λ order _.
      read_on (IsNamed named.trips trip i) no_row nothing (time_in arrival) _ _ (λ from _.
      read_on (IsNamed named.trips trip i) no_row nothing (time_in departure) _ _ (λ to _.
      read_on (IsNamed named.trips trip i) no_row nothing (allows_in pickup) _ _ (λ board _.
      read_on (IsNamed named.trips trip i) no_row nothing (allows_in drop_off) _ _ (λ exit _. (λ v kept of_trip. there ∙ ap (λ (x : ℕ). Some x) of_trip))))))))))

module _ (stops trips others t u : Records) (i j : ℕ) (one : IsSameRow trips others i j) (unique : AreDistinct (trip_ids others)) where
  abbrev ones : List TimedRow
  ones = timed_rows (named_in trips stops) t

  abbrev twos : List TimedRow
  twos = timed_rows (named_in others stops) u

  row_too : (p q : ℕ) → IsSameRow t u p q → IsKeptToo i j (row_at ones p) (row_at twos q)
  unfolding timed_at
  row_too p q same =
      let here : row_at ones p ≡ value_or no_row (timed_at (named_in trips stops) t p) = get-list_below _ (row_count t) p no_row same.here in
      let there : row_at twos q ≡ value_or no_row (timed_at (named_in others stops) u q) = get-list_below _ (row_count u) q no_row same.there in
      let read : List (List ℕ) → List (List ℕ) → TimedRow = λ names fields. value_or no_row (timed_of (named_in others stops) (q + 2) (columns_of names) fields) in
      let is : row_at twos q ≡ read (header t) (slice_index_or t (p + 1) []) = there ∙ ap₂ read same.headers same.fields in
      let fields = slice_index_or t (p + 1) [] in
      let c = time_columns t in
      let kept : IsKeptToo i j (value_or no_row (timed_at (named_in trips stops) t p)) (read (header t) fields) =
      kept_too (p + 2) (q + 2) (field_of fields c.stop) (field_of fields c.sequence) (field_of fields c.arrival) (field_of fields c.departure) (field_of fields c.pickup)
      (field_of fields c.drop_off) stops trips others i j (field_of fields c.trip) (number_too trips others i j one unique) in
      subst (λ (a : TimedRow). IsKeptToo i j a (row_at twos q)) (sym here) (subst (IsKeptToo i j (value_or no_row (timed_at (named_in trips stops) t p))) (sym is) kept)

module _ (stops trips others t u : Records) (i j : ℕ) (one : IsSameRow trips others i j) (unique : AreDistinct (trip_ids others)) where
  abbrev rows : List TimedRow
  rows = timed_rows (named_in trips stops) t

  abbrev more : List TimedRow
  more = timed_rows (named_in others stops) u

  -- a kept row of a trip of the one is a row of the other
  row_named : (q : ℕ) → q < row_count u → (v : StopRow) → (row_at more q).visit ≡ Some v → (row_at more q).trip ≡ j → number_in (field u TripId q) (trip_ids others) ≡ Some j
  unfolding timed_at
  row_named q inside v kept of_trip =
      let there : row_at more q ≡ value_or no_row (timed_at (named_in others stops) u q) = get-list_below _ (row_count u) q no_row inside in
      let fields = slice_index_or u (q + 1) [] in
      let c = time_columns u in
      let is = kept_named (q + 2) 0 (field_of fields c.stop) (field_of fields c.sequence) (field_of fields c.arrival) (field_of fields c.departure) (field_of fields c.pickup)
      (field_of fields c.drop_off) (named_in others stops) j (field_of fields c.trip) v (ap (λ (a : TimedRow). a.visit) (sym there) ∙ kept) (ap (λ (a : TimedRow). a.trip) (sym there) ∙ of_trip) in
      ap (λ (text : List ℕ). number_in text (trip_ids others)) (sym (field_of-at u c.trip q)) ∙ is

  module _ (alone : AreDistinct (trip_ids trips)) (adds : AddsRows (trip_ids trips) t u) where
    row_back : (q : ℕ) → q < row_count u → (v : StopRow) → (row_at more q).visit ≡ Some v → (row_at more q).trip ≡ j → (p : ℕ) × IsSameRow t u p q
    row_back q inside v kept of_trip = elim (adds.others q inside) [
      | inl same ↦ same
      | inr none ↦
          let here = number-here (field u TripId q) (trip_ids others) j (row_named q inside v kept of_trip) in
          let is : field others TripId j ≡ field u TripId q = sym (get-list_below (field others TripId) (row_count others) j [] one.there) ∙ here.1 in
          let was : field trips TripId i ≡ field u TripId q = sym (same_field trips others i j one TripId) ∙ is in
          absurd (none (
            i,
            omega (arith, one.here, length-list_below (field trips TripId) (row_count trips)),
            get-list_below (field trips TripId) (row_count trips) i (field u TripId q) one.here ∙ was,
          ))
    ]

    -- a sequence of a kept row of the trip
    abbrev Taken : ℕ → Type 0
    Taken s = (p : ℕ) × (p < row_count t) × (v : StopRow) × ((row_at rows p).visit ≡ Some v) × ((row_at rows p).trip ≡ i) × ((row_at rows p).sequence ≡ s)

    module _ (visits after : List StopRow) (a : AreStopTimes rows i visits) (b : AreStopTimes more j after) where
      size : length rows ≡ row_count t
      size = length-list_below _ (row_count t)

      more_size : length more ≡ row_count u
      more_size = length-list_below _ (row_count u)

      abbrev first : ℕ → ℕ
      first k = (row_at rows (a.line k)).sequence

      abbrev second : ℕ → ℕ
      second k = (row_at more (b.line k)).sequence

      one_way : Enumerates Taken (λ x y. x < y) first (length visits)
      one_way = record {
        inside = λ k h. let v = a.visit k h in (a.line k, omega (arith, v.inside, size), slice_index_or visits k no_visit, v.kept, v.of_trip, refl);
        rising = a.rising;
        all = λ s taken.
            let (p, inside, v, kept, of_trip, is) = taken in
            let (k, below, at) = a.all p (omega (arith, inside, size)) of_trip (ap is_some kept) in
            (k, below, ap (λ (x : ℕ). (row_at rows x).sequence) at ∙ is);
      }

      -- where the row of the other is in the one
      behind : (k : ℕ) → k < length after → (p : ℕ) × IsSameRow t u p (b.line k)
      behind k h = let v = b.visit k h in row_back (b.line k) (omega (arith, v.inside, more_size)) (slice_index_or after k no_visit) v.kept v.of_trip

      kept_behind : (k : ℕ) → (h : k < length after) → ((row_at rows (behind k h).0).visit ≡ Some (slice_index_or after k no_visit)) × ((row_at rows (behind k h).0).trip ≡ i)
          × (second k ≡ (row_at rows (behind k h).0).sequence)
      kept_behind k h =
          let (p, same) = behind k h in
          let v = b.visit k h in
          let back = row_too stops others trips u t j i (turned trips others i j one) alone (b.line k) p (turned t u p (b.line k) same) (slice_index_or after k no_visit) v.kept v.of_trip in
          (back.0, back.1, sym back.2)

      other_way : Enumerates Taken (λ x y. x < y) second (length after)
      other_way = record {
        inside = λ k h. let w = behind k h in let v = kept_behind k h in (w.0, w.1.here, slice_index_or after k no_visit, v.0, v.1, sym v.2);
        rising = b.rising;
        all = λ s taken.
            let (p, inside, v, kept, of_trip, is) = taken in
            let (q, same) = adds.each p inside in
            let too = row_too stops trips others t u i j one unique p q same v kept of_trip in
            let (k, below, at) = b.all q (omega (arith, same.there, more_size)) too.1 (ap is_some too.0) in
            (k, below, ap (λ (x : ℕ). (row_at more x).sequence) at ∙ too.2 ∙ is);
      }

      never : (x y : ℕ) → x < y → y < x → ⊥
      never x y h k = omega (arith, h, k)

      same_visit : (k : ℕ) → k < length visits → slice_index_or visits k no_visit ≡ slice_index_or after k no_visit
      same_visit k h =
          let w = agree Taken (λ x y. x < y) never first second (length visits) (length after) one_way other_way k h in
          let there = behind k w.0 in
          let kept = kept_behind k w.0 in
          let (l, below, at) = a.all there.0 (omega (arith, there.1.here, size)) kept.1 (ap is_some kept.0) in
          let order : first l ≡ first k = ap (λ (x : ℕ). (row_at rows x).sequence) at ∙ sym kept.2 ∙ sym w.1 in
          let is : l ≡ k = ⊎_elim (λ (less : l < k). absurd (never (first l) (first k) (a.rising l k less h) (omega (arith, order, a.rising l k less h))))
          (λ (ge : k ≤ l). ⊎_elim (λ (less : k < l). absurd (never (first k) (first l) (a.rising k l less below) (omega (arith, order, a.rising k l less below))))
          (λ (le : l ≤ k). omega arith) (cases_lt k l)) (cases_lt l k) in
          let line : a.line k ≡ there.0 = ap a.line (sym is) ∙ at in
          let some : Some (slice_index_or visits k no_visit) ≡ Some (slice_index_or after k no_visit) =
          sym (a.visit k h).kept ∙ ap (λ (x : ℕ). (row_at rows x).visit) line ∙ kept.0 in
          cc

      pub same_visits : visits ≡ after
      same_visits = ext_get_or no_visit visits after (same_size Taken (λ x y. x < y) never first second (length visits) (length after) one_way other_way) same_visit
