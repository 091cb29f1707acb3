-- The kept rows of a trip, by the keys that are of it.
use Rattle.stop_times.proofs.Common.{rules, ◌≡◌, ℕ, ◌+◌, ◌-◌, ◌<◌, ◌≤◌, true, List, [], ◌∷◌, ◌++◌, length, drop, slice_range, slice_index, slice_index_or, Option, Some, None, sym, ap, ◌∙◌, arith}
use Rattle.stop_times.proofs.Common.{⊎_elim, is_some, get_or-take, get_or-drop, length-take-le, length-drop, common_steps, cases_lt, get_or_append_left, get_or_push, first_below, StopRow}
use Rattle.stop_times.proofs.Common.{TimedRow, Key, key_at, IsRising, list_below, row_at, trip_of, sequence_of, repeated_time, IsBounded, rows_between, parted, AreKeysOf, is_taken, visit_or_none}
use Rattle.stop_times.proofs.{Common.{visit_at, AreStopTimes, IsSpanOf, less_group, rises, length-list_below, get-list_below}, BackLemmas.apart}

some_is : (o : Option StopRow) → is_some o ≡ true → o ≡ Some (visit_or_none o)
some_is o h = grind arith

-- the rows from one place to another
length-range : {A : Type 0} (xs : List A) (low high : ℕ) → high ≤ length xs → length (slice_range xs low high) ≡ high - low
length-range xs low high h = length-take-le (high - low) (drop low xs) (omega (arith, length-drop low xs))

get-range : {A : Type 0} (xs : List A) (low high p : ℕ) (d : A) → p < high - low → slice_index_or (slice_range xs low high) p d ≡ slice_index_or xs (low + p) d
get-range xs low high p d h = get_or-take (high - low) (drop low xs) p d h ∙ get_or-drop low xs p d

module _ (rows : List TimedRow) (keys : List Key) (s : AreKeysOf true rows keys) (visits : List StopRow) (e : visits ≡ list_below (visit_at rows keys) (length keys)) where
  long : length visits ≡ length keys
  long = ap length e ∙ length-list_below (visit_at rows keys) (length keys)

  -- the kept rows of the keys of a trip
  pub visits_are : first_below (repeated_time rows) (length rows) ≡ None → (trip low high : ℕ) → IsSpanOf keys trip low high → AreStopTimes rows trip (slice_range visits low high)
  visits_are none trip low high span =
      let of_trip = slice_range visits low high in
      let size : length of_trip ≡ high - low = length-range visits low high (omega (arith, span.inside, long)) in
      record {
        line = λ p. (key_at keys (low + p)).row;
        visit = λ p h. grind (arith, slice_index_or, get-range, get-list_below, some_is);
        rising = λ p q less h.
            let k = low + p in let m = low + q in
            let inside : m < length keys = omega (arith, h, size, span.inside) in
            let same : (key_at keys k).group ≡ (key_at keys m).group
            = span.here k (omega arith) (omega (arith, less, h, size)) ∙ sym (span.here m (omega arith) (omega (arith, h, size))) in
            omega (
              arith,
              rises (is_taken true rows) (trip_of rows) (sequence_of rows) (length rows) keys s (apart rows none) k m (omega arith) inside same,
              s.orders k (omega arith),
              s.orders m inside,
            );
        all = λ i inside of_trip kept.
            let w = s.all i inside kept in
            let k = w.0 in
            let trip_is : (key_at keys k).group ≡ trip = s.groups k w.1 ∙ ap (λ j. (row_at rows j).trip) w.2 ∙ of_trip in
            let first : low ≤ k = ⊎_elim (λ (less : k < low). absurd (omega (arith, trip_is, span.before k less))) (λ (ge : low ≤ k). ge) (cases_lt k low) in
            let last : k < high = ⊎_elim (λ (less : k < high). less) (λ (ge : high ≤ k). absurd (omega (arith, trip_is, span.after k ge w.1))) (cases_lt k high) in
            let back : low + (k - low) ≡ k = omega arith in
            (k - low, omega (arith, size), ap (λ j. (key_at keys j).row) back ∙ w.2);
      }

  -- where each trip has its span, between bounds
  module _ (bounds : List ℕ) (trips : ℕ) (count : length bounds ≡ trips + 1)
      (spans : (trip : ℕ) → trip < trips → IsSpanOf keys trip (slice_index bounds trip) (slice_index bounds (trip + 1))) where
    pub bounded : IsBounded visits bounds
    bounded = grind (arith, common_steps, long)

    pub parted_count : length (parted visits bounds) ≡ trips
    parted_count = omega (arith, length-list_below (rows_between visits bounds) (length bounds - 1), count)

    here : (trip : ℕ) → trip < trips → slice_index_or (parted visits bounds) trip [] ≡ rows_between visits bounds trip
    here trip h = get-list_below (rows_between visits bounds) (length bounds - 1) trip [] (omega (arith, h, count))

    pub parted_are : first_below (repeated_time rows) (length rows) ≡ None → (trip : ℕ) → trip < trips → AreStopTimes rows trip (slice_index_or (parted visits bounds) trip [])
    parted_are none trip h = grind (arith, here, visits_are)

    pub parted_few : (most : ℕ) → length keys ≤ most → (trip : ℕ) → trip < trips → length (slice_index_or (parted visits bounds) trip []) ≤ most
    parted_few most few trip h = grind (arith, common_steps, here, length-range, long)

-- the keys of a trip, where those before are of earlier trips
pub span_is : (keys : List Key) → IsRising keys → (trip low high : ℕ) → low ≤ high → high ≤ length keys
    → ((k : ℕ) → k < low → (key_at keys k).group < trip) → ((k : ℕ) → low ≤ k → k < length keys → trip ≤ (key_at keys k).group)
    → ((k : ℕ) → low ≤ k → k < high → (key_at keys k).group ≡ trip) → (high < length keys → (key_at keys high).group ≡ trip → ⊥)
    → IsSpanOf keys trip low high
span_is keys rising trip low high order inside before rest here other = search (rules, here, less_group)

-- one more bound leaves the spans before, and gives the next
pub spans_next : (keys : List Key) (old new : List ℕ) (start end n : ℕ) → length old ≡ n + 1 → new ≡ old ++ end ∷ [] → slice_index old n ≡ start
    → ((t : ℕ) → t < n → IsSpanOf keys t (slice_index old t) (slice_index old (t + 1))) → IsSpanOf keys n start end
    → (t : ℕ) → t < n + 1 → IsSpanOf keys t (slice_index new t) (slice_index new (t + 1))
spans_next keys old new start end n size e first each here t h = grind (arith, common_steps, get_or_append_left, get_or_push, here)
