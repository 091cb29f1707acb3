-- What the connections of a window add up to: a sum over its service days, the trips of the feed, their runs and their kept rows.
use Rattle.std.specs.Prelude.{ℕ, ◌&&◌, nat_lt, ◌<◌, ◌≤◌, ◌+◌, List, [], ◌∷◌, length, sum_by, if◌then◌else◌}
use Rattle.plan_model.specs.declared.model.PlaceId.{PlaceId}
use Rattle.trip_frequencies.specs.declared.frequencies.FrequencyRow.{FrequencyRow}
use Rattle.stop_times.specs.{declared.rows.StopRow.StopRow, StopTimeBounds.end_of_times}
use Rattle.gtfs_tables.specs.{Feeds.FeedParts, Timed.{repeat_at, rows_of, kept_at}}
use Rattle.run_repeat.specs.Runs.{departure}
use Rattle.service_days.specs.Services.{ServiceParts}
use Rattle.change_times.specs.Changes.{ChangeParts, links_of}
use Rattle.connections.specs.declared.{counts.Counted.{Counted, TheVariants.{Connections, Entries}}, origins.{ServiceDay.ServiceDay, Origin.Origin}}
use Rattle.connections.specs.{declared.window.Window.Window, Joins.sum_below, Origins.origin_of_day, Window.{holds, day_at}, Steps.{is_active_trip, departs}}
use Rattle.connections.specs.{Steps.steps_of, RepeatedRuns.{origin_at, row_repeats}, TripRuns.{frequencies_of, days}}

-- what the connections of a run with these kept rows add up to, by the places that they leave
abbrev pub steps_sum : (PlaceId → ℕ) → Window → List StopRow → Origin → ℕ
steps_sum each w rows o = sum_by (λ k. each (kept_at rows k).place) (steps_of w rows o)

-- the same of the runs that a row of frequencies starts
abbrev pub row_sum : (PlaceId → ℕ) → Window → List StopRow → ServiceDay → FrequencyRow → ℕ
row_sum each w rows day row = sum_by (λ r. steps_sum each w rows (origin_at rows day r.departure)) (row_repeats w rows day row)

-- and of those that the first n rows start
unfoldable pub rows_sum : (PlaceId → ℕ) → Window → List StopRow → ServiceDay → List FrequencyRow → (n : ℕ) → ℕ
rows_sum each w rows day fs n = sum_below (λ i. row_sum each w rows day (repeat_at fs i)) n

-- the same of the runs of a trip on a service day: of its own, or of those that its rows of frequencies start
abbrev pub runs_sum : (PlaceId → ℕ) → Window → List StopRow → List FrequencyRow → ServiceDay → ℕ
runs_sum each w rows [] day = steps_sum each w rows (origin_of_day day)
runs_sum each w rows (row ∷ more) day = rows_sum each w rows day (row ∷ more) (length (row ∷ more))

-- the same of the connections from the k-th kept row of the runs of one of these rows
unfoldable pub leaving_sum : (PlaceId → ℕ) → Window → List StopRow → ServiceDay → FrequencyRow → (k : ℕ) → ℕ
leaving_sum each w rows day row k =
    sum_below (λ m. if nat_lt (departure row m) row.end && holds w (departs rows (origin_at rows day (departure row m)) k) then each (kept_at rows k).place else 0) end_of_times

module _ (each : PlaceId → ℕ) (f : FeedParts) (s : ServiceParts) (w : Window) where
  -- the same, where the service of the trip is active on the day
  abbrev pub trip_sum : (day : ServiceDay) (trip : ℕ) → ℕ
  trip_sum day trip = if is_active_trip f s day trip then runs_sum each w (rows_of f trip) (frequencies_of f trip) day else 0

  -- the same of the first n trips
  unfoldable pub day_sum : (day : ServiceDay) (n : ℕ) → ℕ
  day_sum day n = sum_below (trip_sum day) n

  -- and of the first n service days
  unfoldable pub days_sum : (n : ℕ) → ℕ
  days_sum n = sum_below (λ d. day_sum (day_at w d) (length f.trip_ids)) n

-- what the connections of a window add up to
abbrev pub window_sum : (PlaceId → ℕ) → FeedParts → ServiceParts → Window → ℕ
window_sum each f s w = days_sum each f s w days

-- what a connection counts for: one, or the ways into the place that it leaves, which are the change there and the links
abbrev pub each_of : ChangeParts → Counted → PlaceId → ℕ
each_of c Connections place = 1
each_of c Entries place = length (links_of c place.0) + 1

-- how many connections a window has
abbrev pub count_in : FeedParts → ServiceParts → Window → ℕ
count_in f s w = window_sum (λ place. 1) f s w

-- how many entries it has: pairs of a connection and a way into the place that it leaves
abbrev pub entries_in : FeedParts → ServiceParts → ChangeParts → Window → ℕ
entries_in f s c w = window_sum (each_of c Entries) f s w

-- no more ways than this lead into any of this many places, or into the first one
pub record HaveWays (c : ChangeParts) (places most : ℕ) : Type 0 where
  pub first : length (links_of c 0) + 1 ≤ most
  pub each : (place : ℕ) → place < places → length (links_of c place) + 1 ≤ most
