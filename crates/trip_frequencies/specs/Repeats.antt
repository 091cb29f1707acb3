-- How the rows of frequencies are kept: by trip, beside the numbers of their trips.
use Rattle.std.specs.Prelude.{◌≡◌, ℕ, ◌==◌, ◌<◌, ◌≤◌, List, [], ◌∷◌, length, slice_index, if◌then◌else◌}
use Rattle.csv_rows.specs.Lists.{list_below}
use Rattle.trip_frequencies.specs.declared.frequencies.FrequencyRow.{FrequencyRow}

-- the trips from one index to another are this one, those before are earlier ones, and those after later ones
pub record IsTripSpan (trips : List ℕ) (trip low high : ℕ) : Type 0 where
  pub order : low ≤ high
  pub inside : high ≤ length trips
  pub before : (k : ℕ) → k < low → slice_index trips k < trip
  pub here : (k : ℕ) → low ≤ k → k < high → slice_index trips k ≡ trip
  pub after : (k : ℕ) → high ≤ k → k < length trips → trip < slice_index trips k

-- the rows of a trip among rows beside the numbers of their trips
abbrev pub repeats_in : List ℕ → List FrequencyRow → ℕ → List FrequencyRow
repeats_in [] rows trip = []
repeats_in (t ∷ trips) [] trip = []
repeats_in (t ∷ trips) (row ∷ rows) trip = if t == trip then row ∷ repeats_in trips rows trip else repeats_in trips rows trip

-- the same of each of this number of trips
abbrev pub all_repeats_in : List ℕ → List FrequencyRow → ℕ → List (List FrequencyRow)
all_repeats_in trips rows count = list_below (repeats_in trips rows) count
