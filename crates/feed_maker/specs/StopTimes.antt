-- The meaning of stop times that are made as they are read.
use Rattle.std.specs.{Prelude.{ℕ, ◌-◌, List, ◌++◌, drop, flat_map}, List.range_with_len}
use Rattle.feed_maker.specs.{MadeTables.line_rows, declared.stop_times.StopTimes.StopTimes}

-- the rows of this number of lines from one on
abbrev pub rows_from : ℕ → ℕ → List ℕ
rows_from line count = flat_map line_rows (range_with_len line count)

-- how many lines have rows
abbrev pub lines_of : StopTimes → ℕ
lines_of t = t.lines.count

-- what is unread: the rest of what was made, and the lines that come
abbrev pub remaining_of : StopTimes → List ℕ
remaining_of t = drop t.offset t.text.items ++ rows_from t.next (t.lines.count - t.next)
