-- The kept rows of the trips.
use Rattle.std.specs.Prelude.{◌≡◌, ℕ, ◌<◌, ◌≤◌, false, true, List, length, slice_index_or, Option, Some, None}
use Rattle.stop_times.specs.{declared.rows.{StopRow.StopRow, TimedRow.TimedRow}, StopTimes.{row_at, is_kept}}
use Rattle.csv_rows.specs.{declared.keys.Key.Key, Keys.key_at}

abbrev pub no_visit : StopRow
no_visit = record { stop = 0; place = record { 0 = 0 }; arrival = 0; departure = 0; can_board = false; can_exit = false }

abbrev pub visit_or_none : Option StopRow → StopRow
visit_or_none None = no_visit
visit_or_none (Some visit) = visit

-- this is the kept row i, and it is of the trip
pub record IsVisit (rows : List TimedRow) (trip i : ℕ) (visit : StopRow) : Type 0 where
  pub inside : i < length rows
  pub of_trip : (row_at rows i).trip ≡ trip
  pub kept : (row_at rows i).visit ≡ Some visit

-- the kept rows of a trip, in rising order of their sequences; `line` gives which row is at a place
pub record AreStopTimes (rows : List TimedRow) (trip : ℕ) (visits : List StopRow) : Type 0 where
  pub line : ℕ → ℕ
  pub visit : (p : ℕ) → p < length visits → IsVisit rows trip (line p) (slice_index_or visits p no_visit)
  pub rising : (p q : ℕ) → p < q → q < length visits → (row_at rows (line p)).sequence < (row_at rows (line q)).sequence
  pub all : (i : ℕ) → i < length rows → (row_at rows i).trip ≡ trip → is_kept rows i ≡ true → (p : ℕ) × (p < length visits) × (line p ≡ i)

-- the kept row of a key
abbrev pub visit_at : List TimedRow → List Key → ℕ → StopRow
visit_at rows keys k = visit_or_none (row_at rows (key_at keys k).row).visit

-- the keys from one place to another are of the trip, those before are of earlier ones, and those after of later ones
pub record IsSpanOf (keys : List Key) (trip low high : ℕ) : Type 0 where
  pub order : low ≤ high
  pub inside : high ≤ length keys
  pub before : (k : ℕ) → k < low → (key_at keys k).group < trip
  pub here : (k : ℕ) → low ≤ k → k < high → (key_at keys k).group ≡ trip
  pub after : (k : ℕ) → high ≤ k → k < length keys → trip < (key_at keys k).group
