-- What holds of the kept rows of the trips of a feed, and of their rows of frequencies.
use Rattle.std.specs.Prelude.{◌≡◌, ℕ, ◌<◌, ◌≤◌, List, [], length, slice_index_or, All, sum_by, ◌+◌}
use Rattle.trip_frequencies.specs.{declared.frequencies.FrequencyRow.FrequencyRow, FrequencyBounds.{most_headway, most_frequencies}, Frequencies.no_frequency}
use Rattle.stop_times.specs.{StopTimeBounds.{end_of_times, most_stop_times}, declared.rows.StopRow.StopRow, Visits.no_visit}
use Rattle.gtfs_tables.specs.Feeds.{FeedParts}
use Rattle.plan_model.specs.Bounds.{end_of_steps}

-- its headway and its times are within their bounds
pub record IsFrequency (row : FrequencyRow) : Type 0 where
  pub some : 1 ≤ row.headway
  pub most : row.headway ≤ most_headway
  pub first : row.first < end_of_times
  pub end : row.end < end_of_times

abbrev pub repeat_at : List FrequencyRow → ℕ → FrequencyRow
repeat_at rows k = slice_index_or rows k no_frequency.row

-- the rows of a trip are within their bounds, and their lines rise
pub record AreRepeats (rows : List FrequencyRow) : Type 0 where
  pub each : All IsFrequency rows
  pub rising : (k l : ℕ) → k < l → l < length rows → (repeat_at rows k).line < (repeat_at rows l).line

-- this is so of each trip
abbrev pub AreRepeating : FeedParts → Type 0
AreRepeating f = (trip : ℕ) → trip < length f.trip_ids → AreRepeats (slice_index_or f.frequencies trip [])

-- the tables of the feed are no larger than they may be
pub record IsSmall (f : FeedParts) : Type 0 where
  pub rows : (trip : ℕ) → trip < length f.trip_ids → length (slice_index_or f.stop_times trip []) ≤ most_stop_times
  pub size : length f.frequencies ≡ length f.trip_ids
  pub frequencies : sum_by length f.frequencies ≤ most_frequencies

-- the kept rows of a trip
abbrev pub rows_of : FeedParts → ℕ → List StopRow
rows_of f trip = slice_index_or f.stop_times trip []

abbrev pub kept_at : List StopRow → ℕ → StopRow
kept_at rows k = slice_index_or rows k no_visit

-- they are at one of this number of places, and no time goes back
pub record AreTimed (rows : List StopRow) (places : ℕ) : Type 0 where
  pub few : length rows ≤ end_of_steps
  pub place : (k : ℕ) → k < length rows → (kept_at rows k).place.0 < places
  pub forward : (k : ℕ) → k < length rows → (kept_at rows k).arrival ≤ (kept_at rows k).departure
  pub early : (k : ℕ) → k < length rows → (kept_at rows k).departure < end_of_times
  pub onward : (k : ℕ) → k + 1 < length rows → (kept_at rows k).departure ≤ (kept_at rows (k + 1)).arrival

-- this is so of each trip
abbrev pub IsTimed : FeedParts → Type 0
IsTimed f = (trip : ℕ) → trip < length f.trip_ids → AreTimed (rows_of f trip) (length f.stop_ids)
