-- Two kept rows of a trip that are beside each other: the first departs no later than the second arrives.
use Rattle.stop_times.proofs.Common.{◌≡◌, ℕ, zero, suc, ◌+◌, ◌<◌, ◌≤◌, ◌==◌, nat_lt, Bool, true, false, ◌&&◌, List, length, slice_index_or, Some, None, if◌then◌else◌, sym, ap, ◌∙◌, arith, ⊎_elim}
use Rattle.stop_times.proofs.Common.{is_some, eqb-true, eq-eqb, ltb-true, ltb-false, nat_tests, common_steps, cases_lt, cases_Bool, and_from, and_parts, or_parts, not_from_false, FeedFault}
use Rattle.stop_times.proofs.Common.{BackwardTime, first_below, any_below, any-true, any-false, none-each, precedes, StopRow, TimedRow, row_at, trip_of, sequence_of, is_kept, times_in}
use Rattle.stop_times.proofs.Common.{stop_arrival, departure_of, just_before, goes_back, backward_time, no_visit, AreStopTimes}

and_false : (a b : Bool) → a ≡ true → (a && b) ≡ false → b ≡ false
and_false a b h k = grind (arith, cases_Bool a)

if_none : (b : Bool) (f : FeedFault) → (if b then Some f else None) ≡ None → b ≡ false
if_none b f h = grind (arith, cases_Bool b)

none_at : (p : ℕ → Bool) (n k : ℕ) → k < n → any_below p n ≡ false → p k ≡ false
none_at p n k l h = ⊎_elim (λ (t : p k ≡ true). let u = any-true p n k l t in absurd (cc)) (λ (f : p k ≡ false). f) (cases_Bool (p k))

module _ (rows : List TimedRow) (none : first_below (backward_time rows) (length rows) ≡ None) (trip : ℕ) (visits : List StopRow) (s : AreStopTimes rows trip visits) where
  abbrev at : ℕ → StopRow
  at p = slice_index_or visits p no_visit

  kept : (p : ℕ) → p < length visits → is_kept rows (s.line p) ≡ true
  kept p h = ap is_some (s.visit p h).kept

  arrives : (p : ℕ) → p < length visits → stop_arrival rows (s.line p) ≡ (at p).arrival
  arrives p h = ap (λ o. (times_in o).0) (s.visit p h).kept

  departs : (p : ℕ) → p < length visits → departure_of rows (s.line p) ≡ (at p).departure
  departs p h = ap (λ o. (times_in o).1) (s.visit p h).kept

  late : ℕ → ℕ → Bool
  late i j = nat_lt (stop_arrival rows i) (departure_of rows j)

  holds : (p : ℕ) → p < length visits
      → (nat_lt (departure_of rows (s.line p)) (stop_arrival rows (s.line p)) ≡ false)
      × (any_below (λ j. just_before rows j (s.line p) && late (s.line p) j) (length rows) ≡ false)
  unfolding backward_time late
  holds p h =
      let i = s.line p in
      let back : goes_back rows i ≡ false = if_none (goes_back rows i) (BackwardTime (i + 2)) (none-each (backward_time rows) (length rows) none i (s.visit p h).inside) in
      or_parts _ _ (and_false (is_kept rows i) _ (kept p h) back)

  pub forward : (p : ℕ) → p < length visits → (at p).arrival ≤ (at p).departure
  forward p h = omega (arith, ltb-false _ _ (holds p h).0, arrives p h, departs p h)

  same : (p q : ℕ) → p < length visits → q < length visits → (trip_of rows (s.line p) == trip_of rows (s.line q)) ≡ true
  same p q h k = eq-eqb _ _ ((s.visit p h).of_trip ∙ sym (s.visit q k).of_trip)

  stands : ℕ → ℕ → Bool
  stands j i = precedes (is_kept rows) (trip_of rows) (sequence_of rows) j i

  before : (p q : ℕ) → p < q → q < length visits → stands (s.line p) (s.line q) ≡ true
  unfolding stands
  before p q l h = grind (arith, common_steps, nat_tests, and_from, kept, same)

  between : ℕ → ℕ → ℕ → Bool
  between j i x = stands j x && stands x i

  -- a row that is between two rows of a trip is of that trip
  none_between : (p x : ℕ) → p + 1 < length visits → x < length rows → between (s.line p) (s.line (p + 1)) x ≡ true → ⊥
  unfolding between stands
  none_between p x h inside b =
      let i = s.line p in let j = s.line (p + 1) in
      let both = and_parts (stands i x) (stands x j) b in
      let first = and_parts (is_kept rows i && is_kept rows x) ((trip_of rows i == trip_of rows x) && nat_lt (row_at rows i).sequence (row_at rows x).sequence) both.0 in
      let second = and_parts (is_kept rows x && is_kept rows j) ((trip_of rows x == trip_of rows j) && nat_lt (row_at rows x).sequence (row_at rows j).sequence) both.1 in
      let of_first = and_parts (trip_of rows i == trip_of rows x) (nat_lt (row_at rows i).sequence (row_at rows x).sequence) first.1 in
      let of_second = and_parts (trip_of rows x == trip_of rows j) (nat_lt (row_at rows x).sequence (row_at rows j).sequence) second.1 in
      let trip_is : (row_at rows x).trip ≡ trip = sym (eqb-true (row_at rows i).trip (row_at rows x).trip of_first.0) ∙ (s.visit p (omega arith)).of_trip in
      let w = s.all x inside trip_is (and_parts (is_kept rows i) (is_kept rows x) first.0).1 in
      let here = ap (λ y. (row_at rows y).sequence) w.2 in
      let low = ltb-true (row_at rows i).sequence (row_at rows x).sequence of_first.1 in
      let high = ltb-true (row_at rows x).sequence (row_at rows j).sequence of_second.1 in
      ⊎_elim (λ (less : w.0 < p). omega (arith, low, here, s.rising w.0 p less (omega arith)))
      (λ (from : p ≤ w.0).
      ⊎_elim (λ (more : p + 1 < w.0). omega (arith, high, here, s.rising (p + 1) w.0 more w.1))
      (λ (to : w.0 ≤ p + 1).
      ⊎_elim (λ (up : p < w.0). let e : w.0 ≡ p + 1 = omega arith in omega (arith, high, here, ap (λ y. (row_at rows (s.line y)).sequence) e))
      (λ (down : w.0 ≤ p). let e : w.0 ≡ p = omega arith in omega (arith, low, here, ap (λ y. (row_at rows (s.line y)).sequence) e)) (cases_lt p w.0))
      (cases_lt (p + 1) w.0)) (cases_lt w.0 p)

  just : (p : ℕ) → p + 1 < length visits → just_before rows (s.line p) (s.line (p + 1)) ≡ true
  unfolding between stands
  just p h = grind (arith, common_steps, and_from, before, not_from_false, any-false, between, none_between)

  pub onward : (p : ℕ) → p + 1 < length visits → (at p).departure ≤ (at (p + 1)).arrival
  unfolding late
  onward p h =
      let k : p < length visits = omega arith in
      let i = s.line (p + 1) in
      let no = none_at (λ j. just_before rows j i && late i j) (length rows) (s.line p) (s.visit p k).inside (holds (p + 1) h).1 in
      omega (arith, ltb-false (stop_arrival rows i) (departure_of rows (s.line p)) (and_false (just_before rows (s.line p) i) _ (just p h) no), arrives (p + 1) h, departs p k)

  -- sequences rise from 0 on
  pub rises : (p : ℕ) → p < length visits → p ≤ (row_at rows (s.line p)).sequence
  rises zero h = omega arith
  rises (suc p) h = omega (arith, rises p (omega arith), s.rising p (suc p) (omega arith) h)
