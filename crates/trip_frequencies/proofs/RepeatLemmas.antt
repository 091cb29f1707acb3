-- The rows of a trip among rows by trip.
use Rattle.trip_frequencies.proofs.Common.{◌≡◌, ℕ, zero, suc, ◌-◌, ◌<◌, ◌≤◌, ◌==◌, Bool, true, false, not, ◌&&◌, cond, List, [], ◌∷◌, map, length, take, drop, slice_range, if◌then◌else◌, leb}
use Rattle.trip_frequencies.proofs.Common.{ltb, leb-true, leb-false, ltb-true, ltb-false, nat_cmp, is_lt, refl, sym, ap, ◌∙◌, arith, eq-eqb, ne_eqb, ties, IsStableByKey, IsPartitionPoint}
use Rattle.trip_frequencies.proofs.Common.{IsNonDecreasing, IsNonDecreasingBy, list_below, TripFrequency, no_frequency, repeats_of, all_repeats_of}
use Rattle.trip_frequencies.specs.{declared.frequencies.FrequencyRow.FrequencyRow, Repeats.{IsTripSpan, repeats_in, all_repeats_in}}
use Rattle.std.proofs.lemmas.{Bool.{cases_lt, Decides.nat_tests}, List.{get_or-map, length-map, Elements.filter_agree}}

taken : (b : Bool) (x : TripFrequency) (rows : List FrequencyRow) (xs : List TripFrequency) → rows ≡ map (λ (r : TripFrequency). r.row) xs
    → (if b then x.row ∷ rows else rows) ≡ map (λ (r : TripFrequency). r.row) (cond b (x ∷ xs) xs)
taken b x rows xs h = grind arith

-- rows that are parted from their trips
pub repeats_in-parted : (xs : List TripFrequency) (trip : ℕ)
    → repeats_in (map (λ (r : TripFrequency). r.trip) xs) (map (λ (r : TripFrequency). r.row) xs) trip ≡ repeats_of xs trip
repeats_in-parted [] trip = refl
repeats_in-parted (x ∷ xs) trip = taken (x.trip == trip) x _ _ (repeats_in-parted xs trip)

-- the same of many trips, where the rows are those of others in another order
pub all_repeats-parted : (xs ys : List TripFrequency) → ((trip : ℕ) → repeats_of xs trip ≡ repeats_of ys trip) → (count : ℕ)
    → all_repeats_in (map (λ (r : TripFrequency). r.trip) xs) (map (λ (r : TripFrequency). r.row) xs) count ≡ all_repeats_of ys count
all_repeats-parted xs ys same count = λ i. list_below (λ trip. (repeats_in-parted xs trip ∙ same trip) i) count

-- trips apart from their rows do not fall where they do not fall beside them
pub ordered-parted : (xs : List TripFrequency) → IsNonDecreasingBy (λ (r : TripFrequency). r.trip) xs → IsNonDecreasing (map (λ (r : TripFrequency). r.trip) xs)
ordered-parted xs ordered = λ i j d le inside.
    let trip : TripFrequency → ℕ = λ r. r.trip in
    let size : length (map trip xs) ≡ length xs = length-map xs trip in
    let last : j < length xs = omega (arith, size, inside) in
    omega (arith, ordered i j no_frequency le last, get_or-map trip xs i no_frequency d (omega arith), get_or-map trip xs j no_frequency d last)

tie_is : (a b : ℕ) → (not (is_lt (nat_cmp a b)) && not (is_lt (nat_cmp b a))) ≡ (b == a)
tie_is a b = grind (arith, nat_tests)

-- a stable sort by trip keeps the rows of each trip
pub repeats_of-stable : (xs ys : List TripFrequency) → IsStableByKey (λ (r : TripFrequency). r.trip) nat_cmp xs ys → (trip : ℕ) → repeats_of ys trip ≡ repeats_of xs trip
repeats_of-stable xs ys stable trip =
    let at : TripFrequency = record no_frequency { trip = trip } in
    let tied : TripFrequency → Bool = ties (λ x y. is_lt (nat_cmp x.trip y.trip)) at in
    let same : (y : TripFrequency) → tied y ≡ (y.trip == trip) = λ y. tie_is trip y.trip in
    ap (map (λ (r : TripFrequency). r.row))
    (sym (filter_agree tied (λ (r : TripFrequency). r.trip == trip) same ys) ∙ stable at ∙ filter_agree tied (λ (r : TripFrequency). r.trip == trip) same xs)

-- where a binary search finds the trip
pub span_is : (trips : List ℕ) (trip low high : ℕ) → low ≤ length trips → high ≤ length trips
    → IsPartitionPoint (λ t. ltb t trip ≡ true) (λ t. ltb t trip ≡ false) trips low
    → IsPartitionPoint (λ t. leb t trip ≡ true) (λ t. leb t trip ≡ false) trips high
    → IsTripSpan trips trip low high
span_is trips trip low high few many first last = grind (arith, ltb-true, leb-false, cases_lt, ltb-false, leb-true)

next_span : (t trip low high : ℕ) (trips : List ℕ) → IsTripSpan (t ∷ trips) trip (suc low) (suc high) → IsTripSpan trips trip low high
next_span t trip low high trips s = record {
  order = omega (arith, s.order);
  inside = omega (arith, s.inside);
  before = λ k h. s.before (suc k) (omega arith);
  here = λ k from h. s.here (suc k) (omega arith) (omega arith);
  after = λ k from h. s.after (suc k) (omega arith) (omega arith);
}

first_span : (t trip high : ℕ) (trips : List ℕ) → IsTripSpan (t ∷ trips) trip 0 (suc high) → IsTripSpan trips trip 0 high
first_span t trip high trips s = record {
  order = omega arith;
  inside = omega (arith, s.inside);
  before = λ k h. absurd (omega arith);
  here = λ k from h. s.here (suc k) (omega arith) (omega arith);
  after = λ k from h. s.after (suc k) (omega arith) (omega arith);
}

empty_span : (t trip : ℕ) (trips : List ℕ) → IsTripSpan (t ∷ trips) trip 0 0 → IsTripSpan trips trip 0 0
empty_span t trip trips s = record {
  order = omega arith;
  inside = omega arith;
  before = λ k h. absurd (omega arith);
  here = λ k from h. absurd (omega arith);
  after = λ k from h. s.after (suc k) (omega arith) (omega arith);
}

kept : (b : Bool) (row : FrequencyRow) (rows : List FrequencyRow) → b ≡ true → (if b then row ∷ rows else rows) ≡ row ∷ rows
kept b row rows h = grind arith

passed : (b : Bool) (row : FrequencyRow) (rows : List FrequencyRow) → b ≡ false → (if b then row ∷ rows else rows) ≡ rows
passed b row rows h = grind arith

-- the rows beside the trips of a span
pub repeats_in-span : (trips : List ℕ) (rows : List FrequencyRow) (trip low high : ℕ) → length rows ≡ length trips → IsTripSpan trips trip low high
    → slice_range rows low high ≡ repeats_in trips rows trip
repeats_in-span [] rows trip low high size s = let none : high - low ≡ 0 = omega (arith, s.inside) in ap (λ n. take n (drop low rows)) none
repeats_in-span (t ∷ trips) [] trip low high size s = absurd (omega (arith, size))
repeats_in-span (t ∷ trips) (row ∷ rows) trip (suc low) zero size s = absurd (omega (arith, s.order))
repeats_in-span (t ∷ trips) (row ∷ rows) trip (suc low) (suc high) size s =
    let apart = ne_eqb t trip (λ e. omega (arith, e, s.before 0 (omega arith))) in
    grind (arith, next_span, repeats_in-span trips rows trip low high (omega (arith, size)) (next_span t trip low high trips s))
repeats_in-span (t ∷ trips) (row ∷ rows) trip zero zero size s =
    let apart = ne_eqb t trip (λ e. omega (arith, e, s.after 0 (omega arith) (omega arith))) in
    repeats_in-span trips rows trip 0 0 (omega (arith, size)) (empty_span t trip trips s) ∙ sym (passed (t == trip) row _ apart)
repeats_in-span (t ∷ trips) (row ∷ rows) trip zero (suc high) size s =
    let same = eq-eqb t trip (s.here 0 (omega arith) (omega arith)) in
    let more : suc high - 0 ≡ suc (high - 0) = omega arith in
    ap (λ n. take n (row ∷ rows)) more
    ∙ ap (λ xs. row ∷ xs) (repeats_in-span trips rows trip 0 high (omega (arith, size)) (first_span t trip high trips s)) ∙ sym (kept (t == trip) row _ same)
