-- The bounds of stop times, as numbers.
use Rattle.std.specs.Prelude.{ℕ}

-- 168 hours: each time of a service day is before it
abbrev pub end_of_times : ℕ
end_of_times = 604800

-- as many rows as a table of stop times may have
abbrev pub most_stop_times : ℕ
most_stop_times = 33554432
