-- The kept rows of all trips, as they are kept: one trip after the other, between bounds.
use Rattle.std.specs.Prelude.{ℕ, ◌+◌, ◌-◌, ◌<◌, ◌≤◌, List, length, slice_index, slice_range}
use Rattle.csv_rows.specs.Lists.{list_below}
use Rattle.stop_times.specs.declared.{rows.StopRow.StopRow, by_trip.StopTimes.TheInside.Inside}

-- the rows of a trip are from its bound to the next one
abbrev pub rows_between : List StopRow → List ℕ → ℕ → List StopRow
rows_between visits bounds trip = slice_range visits (slice_index bounds trip) (slice_index bounds (trip + 1))

-- those of each trip
abbrev pub parted : List StopRow → List ℕ → List (List StopRow)
parted visits bounds = list_below (rows_between visits bounds) (length bounds - 1)

-- no bound is below the one before it, and none is past the last row
pub record IsBounded (visits : List StopRow) (bounds : List ℕ) : Type 0 where
  pub order : (trip : ℕ) → trip + 1 < length bounds → slice_index bounds trip ≤ slice_index bounds (trip + 1)
  pub inside : (trip : ℕ) → trip + 1 < length bounds → slice_index bounds (trip + 1) ≤ length visits

-- the kept rows of each trip
abbrev pub trips_of : Inside → List (List StopRow)
trips_of s = parted s.visits.items s.bounds.items

-- the bounds are bounds of the rows
abbrev pub AreBounded : Inside → Type 0
AreBounded s = IsBounded s.visits.items s.bounds.items
