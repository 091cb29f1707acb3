-- The rows of frequencies, the forms of their fields, and how each trip repeats by them (GTFS Schedule reference).
use Rattle.std.specs.Prelude.{ℕ, ◌==◌, Bool, true, false, ◌||◌, List, length, Option, Some, None, option_and_then, if◌then◌else◌, codes, ◌≡◌, ◌+◌, [], ◌∷◌, map}
use Rattle.std.specs.{Prelude.{slice_index_or, Result, Ok, Err}, Str.bytes_eq, List.filter, Option.option_or, Result.result_err}
use Rattle.clock_text.specs.{Digits.whole_of, Times.time_at}
use Rattle.trip_frequencies.specs.{FrequencyBounds.most_headway, declared.frequencies.{FrequencyRow.FrequencyRow, TripFrequency.TripFrequency}}
use Rattle.trip_frequencies.specs.declared.frequencies.FrequencyColumns.{FrequencyColumns}
use Rattle.plan_model.specs.Results.{and_then, require, unless, value_or}
use Rattle.csv_rows.specs.declared.{columns.Column.TheVariants.{TripId, StartTime, EndTime, HeadwaySecs, ExactTimes}, feed_tables.Table.TheVariants.Frequencies}
use Rattle.csv_rows.specs.{declared.feed_tables.FeedFault.{FeedFault, TheVariants.{BadField, UnknownKey, DuplicateKey}}, Lists.{first_below, list_below}}
use Rattle.csv_rows.specs.{Keys.has_twin, Ids.name_in, RowFaults.first_missing, Tables.{row_count, number_in, index_of, field_at}}
use Rattle.table_files.specs.{declared.loading.Loaded.{Loaded, TheVariants.{Absent, NoRecord, Found}}, Loading.loaded_rows}

-- the seconds from one departure to the next: one at least, and a day at most
abbrev pub headway_in : List ℕ → Option ℕ
headway_in text = option_and_then (λ seconds. if seconds == 0 then None else Some seconds) (whole_of most_headway text)

-- whether departures are exact to the second; if it is empty they are not
abbrev pub is_exact_in : List ℕ → Option Bool
is_exact_in text =
    if length text == 0 || bytes_eq text (codes "0") then Some false
    else if bytes_eq text (codes "1") then Some true
    else None

-- the row of these fields, or the first that is not of its form or names no trip; both kinds of `exact_times` are read alike
abbrev pub frequency_from : (trips : List (List ℕ)) (line : ℕ) (trip start end headway exact : List ℕ) → Result TripFrequency FeedFault
frequency_from trips line trip start end headway exact =
    require (name_in trip) (BadField Frequencies line TripId) (λ trip'.
    require (number_in trip' trips) (UnknownKey Frequencies line TripId) (λ number.
    require (time_at start) (BadField Frequencies line StartTime) (λ start'.
    require (time_at end) (BadField Frequencies line EndTime) (λ end'.
    require (headway_in headway) (BadField Frequencies line HeadwaySecs) (λ headway'.
    require (is_exact_in exact) (BadField Frequencies line ExactTimes) (λ exact'.
    Ok (record { trip = number; row = record { first = start'; end = end'; headway = headway'; line = line } })))))))

-- the indexes of the columns
abbrev pub frequency_columns : List (List (List ℕ)) → FrequencyColumns
frequency_columns t = record {
  trip = index_of TripId t;
  start = index_of StartTime t;
  end = index_of EndTime t;
  headway = index_of HeadwaySecs t;
  exact = index_of ExactTimes t;
}

-- row i, where these are the ids of the trips
abbrev pub frequency_in : List (List ℕ) → List (List (List ℕ)) → FrequencyColumns → ℕ → Result TripFrequency FeedFault
frequency_in trips t c i =
    frequency_from trips (i + 2) (field_at t c.trip i) (field_at t c.start i) (field_at t c.end i) (field_at t c.headway i) (field_at t c.exact i)

unfoldable pub frequency_at : List (List ℕ) → List (List (List ℕ)) → ℕ → Result TripFrequency FeedFault
frequency_at trips t i = frequency_in trips t (frequency_columns t) i

-- the first fault of row i by itself
abbrev pub bad_frequency : List (List ℕ) → List (List (List ℕ)) → ℕ → Option FeedFault
bad_frequency trips t i = result_err (frequency_at trips t i)

abbrev pub no_frequency : TripFrequency
no_frequency = record { trip = 0; row = record { first = 0; end = 0; headway = 0; line = 0 } }

-- the rows, where they have no fault by themselves
abbrev pub frequency_rows : List (List ℕ) → List (List (List ℕ)) → List TripFrequency
frequency_rows trips t = list_below (λ i. value_or no_frequency (frequency_at trips t i)) (row_count t)

abbrev pub trip_of_row : List TripFrequency → ℕ → ℕ
trip_of_row rows i = (slice_index_or rows i no_frequency).trip

abbrev pub start_of_row : List TripFrequency → ℕ → ℕ
start_of_row rows i = (slice_index_or rows i no_frequency).row.first

-- an earlier row has the trip and the start of row i
unfoldable pub repeated_start : List TripFrequency → ℕ → Option FeedFault
repeated_start rows i = if has_twin (trip_of_row rows) (start_of_row rows) i then Some (DuplicateKey Frequencies (i + 2)) else None

-- the first fault of the frequencies
unfoldable pub frequencies_fault : List (List ℕ) → List (List (List ℕ)) → Option FeedFault
frequencies_fault trips t =
    option_or (first_missing Frequencies t (TripId ∷ StartTime ∷ EndTime ∷ HeadwaySecs ∷ []))
    (option_or (first_below (bad_frequency trips t) (row_count t))
    (first_below (repeated_start (frequency_rows trips t)) (length (frequency_rows trips t))))

-- the rows of a trip, in the order of the file
abbrev pub repeats_of : List TripFrequency → ℕ → List FrequencyRow
repeats_of rows trip = map (λ r. r.row) (filter (λ r. r.trip == trip) rows)

-- the same of each of this number of trips
abbrev pub all_repeats_of : List TripFrequency → ℕ → List (List FrequencyRow)
all_repeats_of rows count = list_below (repeats_of rows) count

-- a table that is absent has no fault, and neither has one whose file has no record
abbrev pub fault_of_frequencies : List (List ℕ) → Loaded → Option FeedFault
fault_of_frequencies trips (Found t) = frequencies_fault trips t
fault_of_frequencies trips Absent = None
fault_of_frequencies trips NoRecord = None

-- the frequencies may be absent, or have no record
abbrev pub frequencies_from : Result Loaded FeedFault → List (List ℕ) → Result Loaded FeedFault
frequencies_from loaded trips = and_then loaded (λ l. unless (fault_of_frequencies trips l) l)

-- what was read of the table
abbrev pub AreFrequencies : (trips : List (List ℕ)) → Result Loaded FeedFault → List (List FrequencyRow) → Type 0
AreFrequencies trips (Ok l) rows = rows ≡ all_repeats_of (frequency_rows trips (loaded_rows l)) (length trips)
AreFrequencies trips (Err fault) rows = ⊥
