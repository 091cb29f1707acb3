-- Which kept rows a run leaves in a window.
use Rattle.std.specs.Prelude.{ℕ, ℤ, ◌-◌, ◌<◌, ◌≤◌, nat_lt, Bool, List, [], length, slice_index_or}
use Rattle.stop_times.specs.{declared.rows.StopRow.StopRow, StopTimeBounds.end_of_times}
use Rattle.gtfs_tables.specs.{Feeds.FeedParts, Timed.kept_at}
use Rattle.service_days.specs.Services.{ServiceParts, runs}
use Rattle.connections.specs.{declared.{origins.{ServiceDay.ServiceDay, Origin.Origin}, window.Window.Window}, Joins.{join_below, only_if}, Origins.moment_of}
use Rattle.connections.specs.Window.{holds}

-- when a run leaves the k-th kept row of its trip
abbrev pub departs : List StopRow → Origin → ℕ → ℤ
departs rows o k = moment_of o (kept_at rows k).departure

-- no kept row is left before one that comes before it
abbrev pub DepartInOrder : List StopRow → Type 0
DepartInOrder rows = (i j : ℕ) → i ≤ j → j < length rows → (kept_at rows i).departure ≤ (kept_at rows j).departure

-- and each on its service day, which ends at the end of times
pub record DepartOnDay (rows : List StopRow) : Type 0 where
  pub ordered : DepartInOrder rows
  pub early : (k : ℕ) → k < length rows → (kept_at rows k).departure < end_of_times

-- which of the first n kept rows a run leaves in the window
unfoldable pub steps_below : Window → List StopRow → Origin → ℕ → List ℕ
steps_below w rows o n = join_below (λ k. only_if (holds w (departs rows o k)) k) n

-- the same of all rows but the last
abbrev pub steps_of : Window → List StopRow → Origin → List ℕ
steps_of w rows o = steps_below w rows o (length rows - 1)

-- whether it has a connection in the window
abbrev pub has_connection : Window → List StopRow → Origin → Bool
has_connection w rows o = nat_lt 0 (length (steps_of w rows o))

-- whether the service of a trip is active on a day
abbrev pub is_active_trip : FeedParts → ServiceParts → ServiceDay → ℕ → Bool
is_active_trip f s day trip = runs s (slice_index_or f.services trip []) day.number
