-- The rows in the order of trip and sequence, and what shows there.
use Rattle.std.specs.Prelude.{◌≡◌, ℕ, ◌+◌, ◌<◌, ◌⊎◌, nat_lt, Bool, false, not, ◌||◌, List, length, Option, Some, None, if◌then◌else◌}
use Rattle.csv_rows.specs.{declared.{feed_tables.FeedFault.{FeedFault, TheVariants.BackwardTime}, keys.Key.Key}, Keys.AreSorted}
use Rattle.stop_times.specs.{declared.rows.TimedRow.TimedRow, StopTimes.{row_at, trip_of, sequence_of, is_kept, stop_arrival, departure_of}}

-- the rows that are taken: all, or those that are kept
abbrev pub is_taken : Bool → List TimedRow → ℕ → Bool
is_taken kept_alone rows i = not kept_alone || is_kept rows i

-- the keys of these rows, in the order of trip, sequence and place in the file
abbrev pub AreKeysOf : Bool → List TimedRow → List Key → Type 0
AreKeysOf kept_alone rows keys = AreSorted (is_taken kept_alone rows) (trip_of rows) (sequence_of rows) (length rows) keys

-- the row arrives before that of the key before departs
abbrev pub arrives_before : List TimedRow → Option Key → ℕ → Bool
arrives_before rows None i = false
arrives_before rows (Some before) i = nat_lt (stop_arrival rows i) (departure_of rows before.row)

abbrev pub goes_back_after : List TimedRow → Option Key → ℕ → Bool
goes_back_after rows before i = nat_lt (departure_of rows i) (stop_arrival rows i) || arrives_before rows before i

abbrev pub backward_after : List TimedRow → Option Key → ℕ → Option FeedFault
backward_after rows before i = if goes_back_after rows before i then Some (BackwardTime (i + 2)) else None

-- by trip, and then by sequence
abbrev pub IsRowBefore : TimedRow → TimedRow → Type 0
IsRowBefore a b = (a.trip < b.trip) ⊎ ((a.trip ≡ b.trip) × (a.sequence < b.sequence))

-- each row comes before all that are after it in the file
abbrev pub AreRowsRising : List TimedRow → Type 0
AreRowsRising rows = (j i : ℕ) → j < i → i < length rows → IsRowBefore (row_at rows j) (row_at rows i)
