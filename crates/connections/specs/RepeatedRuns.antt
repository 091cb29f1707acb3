-- The runs that the rows of frequencies of a trip start on a service day (GTFS Schedule reference).
use Rattle.std.specs.Prelude.{ℕ, pos, ◌-ℤ◌, ◌&&◌, ◌||◌, ◌==◌, nat_lt, Bool, List, [], ◌∷◌, length, if◌then◌else◌}
use Rattle.trip_frequencies.specs.declared.frequencies.FrequencyRow.{FrequencyRow}
use Rattle.stop_times.specs.{declared.rows.StopRow.StopRow, StopTimeBounds.end_of_times}
use Rattle.gtfs_tables.specs.Timed.{repeat_at, kept_at}
use Rattle.run_repeat.specs.Runs.{departure}
use Rattle.connections.specs.{declared.{origins.{ServiceDay.ServiceDay, Origin.Origin}, repeats.Repeat.Repeat, window.Window.Window}, Joins.join_below}
use Rattle.connections.specs.{Joins.only_if, Steps.has_connection}

-- the m-th run of a row, from 0 on
abbrev pub repeat_of : FrequencyRow → ℕ → Repeat
repeat_of row m = record { departure = departure row m; line = row.line }

-- the times of a trip with these kept rows count from where its first kept row is left at this second of the service day
abbrev pub origin_at : List StopRow → ServiceDay → ℕ → Origin
origin_at rows day second = record { day = day; shift = pos second -ℤ pos (kept_at rows 0).departure }

-- whether the m-th run of a row is one, since it departs before the row's end, and has a connection in the window
abbrev pub is_repeat : Window → List StopRow → ServiceDay → FrequencyRow → ℕ → Bool
is_repeat w rows day row m = nat_lt (departure row m) row.end && has_connection w rows (origin_at rows day (departure row m))

-- the runs of a row that depart in the window, in their order
unfoldable pub row_repeats : Window → List StopRow → ServiceDay → FrequencyRow → List Repeat
row_repeats w rows day row = join_below (λ m. only_if (is_repeat w rows day row m) (repeat_of row m)) end_of_times

-- the same of all rows, row by row
unfoldable pub rows_repeats : Window → List StopRow → ServiceDay → List FrequencyRow → List Repeat
rows_repeats w rows day fs = join_below (λ i. row_repeats w rows day (repeat_at fs i)) (length fs)

-- it departs sooner, or at the same time by an earlier line
abbrev pub repeat_precedes : Repeat → Repeat → Bool
repeat_precedes a b = nat_lt a.departure b.departure || (a.departure == b.departure && nat_lt a.line b.line)

-- after those that precede it
abbrev pub with_repeat : Repeat → List Repeat → List Repeat
with_repeat r [] = r ∷ []
with_repeat r (x ∷ xs) = if repeat_precedes x r then x ∷ with_repeat r xs else r ∷ x ∷ xs

-- in the order of their departures, and where these are equal of their lines
abbrev pub in_order : List Repeat → List Repeat
in_order [] = []
in_order (r ∷ rs) = with_repeat r (in_order rs)
