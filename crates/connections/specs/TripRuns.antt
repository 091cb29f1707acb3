-- The runs of a feed that depart in a window.
use Rattle.std.specs.Prelude.{ℕ, pos, List, [], ◌∷◌, length, map, slice_index_or, Some, None, if◌then◌else◌}
use Rattle.trip_frequencies.specs.declared.frequencies.FrequencyRow.{FrequencyRow}
use Rattle.stop_times.specs.declared.rows.StopRow.{StopRow}
use Rattle.gtfs_tables.specs.{Feeds.FeedParts, Timed.rows_of}
use Rattle.service_days.specs.Services.{ServiceParts}
use Rattle.connections.specs.{declared.{origins.ServiceDay.ServiceDay, repeats.Repeat.Repeat, runs.Run.Run, window.Window.Window}, Joins.{join_below, only_if}}
use Rattle.connections.specs.{Origins.origin_of_day, Window.day_at, Steps.{has_connection, steps_of, is_active_trip}, RepeatedRuns.{origin_at, rows_repeats}}
use Rattle.connections.specs.RepeatedRuns.{in_order}

-- the rows of frequencies of a trip
abbrev pub frequencies_of : FeedParts → ℕ → List FrequencyRow
frequencies_of f trip = slice_index_or f.frequencies trip []

-- the run of a trip with no such row on a service day
abbrev pub own_run : ServiceDay → ℕ → Run
own_run day trip = record { origin = origin_of_day day; trip = trip; repeat = None }

-- the run of a trip with these kept rows that one of its rows of frequencies starts
abbrev pub repeat_run : List StopRow → ServiceDay → (trip : ℕ) → Repeat → Run
repeat_run rows day trip r = record { origin = origin_at rows day r.departure; trip = trip; repeat = Some r }

-- the runs of a trip on a service day that depart in the window: its own where it has no rows of frequencies, and else those
-- that these start, by departure and then by line
abbrev pub runs_of_trip : Window → List StopRow → List FrequencyRow → ServiceDay → (trip : ℕ) → List Run
runs_of_trip w rows [] day trip = only_if (has_connection w rows (origin_of_day day)) (own_run day trip)
runs_of_trip w rows (row ∷ more) day trip = map (repeat_run rows day trip) (in_order (rows_repeats w rows day (row ∷ more)))

-- the same, where its service is active on the day
abbrev pub trip_runs : FeedParts → ServiceParts → Window → ServiceDay → ℕ → List Run
trip_runs f s w day trip = if is_active_trip f s day trip then runs_of_trip w (rows_of f trip) (frequencies_of f trip) day trip else []

-- those of the first n trips
unfoldable pub day_runs : FeedParts → ServiceParts → Window → ServiceDay → ℕ → List Run
day_runs f s w day n = join_below (trip_runs f s w day) n

-- the runs of the first n service days
unfoldable pub runs_below : FeedParts → ServiceParts → Window → ℕ → List Run
runs_below f s w n = join_below (λ d. day_runs f s w (day_at w d) (length f.trip_ids)) n

-- how many service days a window has: from 14 before the date of its start to 3 after it
abbrev pub days : ℕ
days = 18

-- the runs that depart in the window, by service day, position of the trip, departure from the first kept row and line of the row
-- of frequencies
abbrev pub window_runs : FeedParts → ServiceParts → Window → List Run
window_runs f s w = runs_below f s w days

abbrev pub no_run : Run
no_run = own_run (record { number = pos 0 }) 0

abbrev pub run_at : List Run → ℕ → Run
run_at rs r = slice_index_or rs r no_run

-- the steps of a run in the window
abbrev pub run_steps : FeedParts → Window → Run → List ℕ
run_steps f w run = steps_of w (rows_of f run.trip) run.origin
