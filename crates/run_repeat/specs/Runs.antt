-- The runs of a trip that repeats, by one of its rows.
use Rattle.std.specs.Prelude.{ℕ, ℤ, pos, ◌+◌, ◌*◌, ◌<◌, ◌<ℤ◌, ◌≤ℤ◌}
use Rattle.stop_times.specs.StopTimeBounds.{end_of_times}
use Rattle.trip_frequencies.specs.declared.frequencies.FrequencyRow.{FrequencyRow}

-- each departs a headway after the one before, from the row's start on
abbrev pub departure : FrequencyRow → ℕ → ℕ
departure row k = row.first + k * row.headway

-- and before the row's end
abbrev pub IsRunOf : FrequencyRow → ℕ → Type 0
IsRunOf row k = departure row k < row.end

-- there are n of them: those below n are those of which P holds
pub record AreBelow (n : ℕ) (P : ℕ → Type 0) : Type 0 where
  pub hold : (k : ℕ) → k < n → P k
  pub all : (k : ℕ) → P k → k < n

-- the runs that pass, this long after they depart, before a moment
abbrev pub PassesBefore : FrequencyRow → (offset : ℕ) → ℤ → ℕ → Type 0
PassesBefore row offset moment k = IsRunOf row k × (pos (departure row k + offset) <ℤ moment)

-- and at it, or before
abbrev pub PassesUpTo : FrequencyRow → (offset : ℕ) → ℤ → ℕ → Type 0
PassesUpTo row offset moment k = IsRunOf row k × (pos (departure row k + offset) ≤ℤ moment)

-- its times are before the end of times
pub record AreTimes (row : FrequencyRow) : Type 0 where
  pub first : row.first < end_of_times
  pub end : row.end < end_of_times
