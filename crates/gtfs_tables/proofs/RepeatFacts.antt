-- The rows of frequencies of a feed's trips are within their bounds, and their lines rise.
use Rattle.gtfs_tables.proofs.Common.{◌≡◌, ℕ, ◌+◌, ◌<◌, ◌≤◌, ◌==◌, Bool, List, [], map, length, slice_index_or, Option, Some, None, if◌then◌else◌, filter, refl, sym, ap, ◌∙◌, subst, arith}
use Rattle.gtfs_tables.proofs.Common.{Result, Ok, option_and_then, AllPairs, value_or, TripId, StartTime, EndTime, HeadwaySecs, ExactTimes, Frequencies, FeedFault, BadField, UnknownKey, Loaded}
use Rattle.gtfs_tables.proofs.Common.{loaded_rows, row_count, number_in, field, field_at, length-list_below, get-list_below, FrequencyRow, FeedParts, IsSoundFeed, frequency_from}
use Rattle.gtfs_tables.proofs.Common.{frequency_columns, frequency_at, frequency_rows, bad_frequency, no_frequency, frequencies_fault, fault_of_frequencies, repeats_of, IsFrequency, AreRepeats}
use Rattle.gtfs_tables.proofs.Common.{AreRepeating, trip_ids, require-ok}
use Rattle.std.proofs.lemmas.List.{get_or-map, length-map, Elements.{All-filter, All-map}, Kept.AllPairs-filter}
use Rattle.std.specs.Result.{result_err}
use Rattle.clock_text.specs.{Digits.whole_of, Times.time_at}
use Rattle.clock_text.proofs.DigitLemmas.{whole_bound}
use Rattle.csv_rows.specs.{Lists.first_below, Ids.name_in}
use Rattle.csv_rows.proofs.FirstLemmas.{first-zero, none-both, none-each}
use Rattle.trip_frequencies.specs.{declared.frequencies.TripFrequency.TripFrequency, FrequencyBounds.most_headway, Frequencies.{headway_in, is_exact_in}}
use Rattle.trip_frequencies.proofs.FrequencyLemmas.{frequency_count}
use Rattle.stop_times.proofs.RowForms.{time_below}

-- a row of this line that is within its bounds
record IsFormed (line : ℕ) (r : TripFrequency) : Type 0 where
  bounds : IsFrequency r.row
  line_is : r.row.line ≡ line

headway_some : (o : Option ℕ) (n : ℕ) → option_and_then (λ seconds. if seconds == 0 then None else Some seconds) o ≡ Some n → (o ≡ Some n) × (1 ≤ n)
headway_some o n h = grind arith

-- a row that has no fault by itself
from_formed : (trips : List (List ℕ)) (line : ℕ) (trip start end headway exact : List ℕ) (r : TripFrequency) → frequency_from trips line trip start end headway exact ≡ Ok r → IsFormed line r
from_formed trips line trip start end headway exact r h =
    let a = require-ok (name_in trip) (BadField Frequencies line TripId) _ r h in
    let b = require-ok (number_in a.0 trips) (UnknownKey Frequencies line TripId) _ r a.2 in
    let c = require-ok (time_at start) (BadField Frequencies line StartTime) _ r b.2 in
    let d = require-ok (time_at end) (BadField Frequencies line EndTime) _ r c.2 in
    let e = require-ok (headway_in headway) (BadField Frequencies line HeadwaySecs) _ r d.2 in
    let g = require-ok (is_exact_in exact) (BadField Frequencies line ExactTimes) _ r e.2 in
    let some = headway_some (whole_of most_headway headway) e.0 e.1 in
    let row : FrequencyRow = record { first = c.0; end = d.0; headway = e.0; line = line } in
    let made : TripFrequency = record { trip = b.0; row = row } in
    let same : made ≡ r = cc in
    subst (IsFormed line) same (record {
      bounds = record { some = some.1; most = whole_bound most_headway e.0 headway some.0; first = time_below start c.0 c.1; end = time_below end d.0 d.1 };
      line_is = refl;
    })

ok_formed : (line : ℕ) (o : Result TripFrequency FeedFault) → result_err o ≡ None → ((r : TripFrequency) → o ≡ Ok r → IsFormed line r) → IsFormed line (value_or no_frequency o)
ok_formed line o none k = grind arith

row_formed : (trips : List (List ℕ)) (t : List (List (List ℕ))) (i : ℕ) → result_err (frequency_at trips t i) ≡ None → IsFormed (i + 2) (value_or no_frequency (frequency_at trips t i))
unfolding frequency_at
row_formed trips t i none =
    let c = frequency_columns t in
    ok_formed (i + 2) (frequency_at trips t i) none
    (from_formed trips (i + 2) (field_at t c.trip i) (field_at t c.start i) (field_at t c.end i) (field_at t c.headway i) (field_at t c.exact i))

-- a table with no fault has no field that is not of its form
fields_none : (trips : List (List ℕ)) (l : Loaded) → fault_of_frequencies trips l ≡ None → first_below (bad_frequency trips (loaded_rows l)) (row_count (loaded_rows l)) ≡ None
unfolding frequencies_fault
fields_none trips l h = grind (arith, first-zero, none-both)

AreFormed : List TripFrequency → Type 0
AreFormed rows = (i : ℕ) (d : TripFrequency) → i < length rows → IsFormed (i + 2) (slice_index_or rows i d)

rows_formed : (trips : List (List ℕ)) (l : Loaded) → fault_of_frequencies trips l ≡ None → AreFormed (frequency_rows trips (loaded_rows l))
unfolding AreFormed
rows_formed trips l none = λ i d h.
    let t = loaded_rows l in
    let inside : i < row_count t = omega (arith, frequency_count trips t, h) in
    subst (IsFormed (i + 2)) (sym (get-list_below (λ j. value_or no_frequency (frequency_at trips t j)) (row_count t) i d inside))
    (row_formed trips t i (none-each (bad_frequency trips t) (row_count t) (fields_none trips l none) i inside))

-- the rows of a trip
repeats_are : (rows : List TripFrequency) (trip : ℕ) → AreFormed rows → AreRepeats (repeats_of rows trip)
unfolding AreFormed
repeats_are rows trip formed =
    let own : TripFrequency → Bool = λ r. r.trip == trip in
    let kept : List TripFrequency = filter own rows in
    let row : TripFrequency → FrequencyRow = λ r. r.row in
    let before : TripFrequency → TripFrequency → Type 0 = λ a b. a.row.line < b.row.line in
    let pairs : AllPairs before rows = λ i j d less inside. omega (arith, less, (formed i d (omega arith)).line_is, (formed j d inside).line_is) in
    let rising : AllPairs before kept = AllPairs-filter before own rows pairs in
    record {
      each = All-map IsFrequency row kept (All-filter own (λ r. IsFrequency r.row) rows (λ k d h. (formed k d h).bounds));
      rising = λ k l less h.
          let size : length (map row kept) ≡ length kept = length-map kept row in
          let inside : l < length kept = omega (arith, size, h) in
          let first = ap (λ (x : FrequencyRow). x.line) (get_or-map row kept k no_frequency no_frequency.row (omega arith)) in
          let second = ap (λ (x : FrequencyRow). x.line) (get_or-map row kept l no_frequency no_frequency.row inside) in
          omega (arith, rising k l no_frequency less inside, first, second);
    }

pub is_repeating : (f : FeedParts) → IsSoundFeed f → AreRepeating f
is_repeating f s trip h =
    let ids = trip_ids s.tables.trips in
    let rows = frequency_rows ids (loaded_rows s.tables.frequencies) in
    let inside : trip < row_count s.tables.trips = omega (arith, h, ap length s.feed.trips, length-list_below (field s.tables.trips TripId) (row_count s.tables.trips)) in
    let here = ap (λ (xs : List (List FrequencyRow)). slice_index_or xs trip []) s.feed.frequencies_of_trips ∙ get-list_below (repeats_of rows) (row_count s.tables.trips) trip [] inside in
    subst AreRepeats (sym here) (repeats_are rows trip (rows_formed ids s.tables.frequencies s.frequencies))
