-- The stop times of a feed.
use Rattle.std.specs.Prelude.{◌≡◌, ℕ, ◌<◌, List, [], length, slice_index_or, Result, Ok, Err}
use Rattle.plan_model.specs.Results.{and_then, unless}
use Rattle.csv_rows.specs.declared.{columns.Column.TheVariants.TripId, feed_tables.{Table.TheVariants.StopTimes, FeedFault.FeedFault}}
use Rattle.table_files.specs.{declared.loading.Loaded.Loaded, Loading.{Records, required}}
use Rattle.stop_times.specs.{declared.rows.StopRow.StopRow, StopTimes.{TripsAndStops, timed_rows, stop_times_fault}, Visits.AreStopTimes}

-- the table by what was loaded of it
abbrev pub stop_times_from : Result Loaded FeedFault → TripsAndStops → Result Records FeedFault
stop_times_from loaded named = and_then (required StopTimes TripId loaded) (λ t. unless (stop_times_fault named t) t)

-- the kept rows of each trip, of what was read of the table
abbrev pub AreVisits : TripsAndStops → Result Records FeedFault → List (List StopRow) → Type 0
AreVisits named (Ok t) visits =
    (length visits ≡ length named.trips) × ((trip : ℕ) → trip < length named.trips → AreStopTimes (timed_rows named t) trip (slice_index_or visits trip []))
AreVisits named (Err fault) visits = ⊥
