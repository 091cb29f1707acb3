-- A window of time, and the service days whose trips may depart in it.
use Rattle.std.specs.Prelude.{ℕ, ℤ, pos, ◌+◌, ◌*◌, ◌/◌, ◌-ℤ◌, ◌≤◌, ◌&&◌, int_le, Bool}
use Rattle.plan_model.specs.Bounds.{first_start, last_start, seconds_per_day}
use Rattle.connections.specs.declared.{origins.ServiceDay.ServiceDay, window.Window.Window}

-- from the start to this many hours later, both ends included
abbrev pub window_of : ℕ → ℕ → Window
window_of start horizon = record { start = start; end = start + 3600 * horizon }

abbrev pub holds : Window → ℤ → Bool
holds w moment = int_le (pos w.start) moment && int_le moment (pos w.end)

-- its service days, the first of which is 14 days before the date of the start
abbrev pub day_at : Window → ℕ → ServiceDay
day_at w d = record { number = pos (w.start / seconds_per_day + d) -ℤ pos 14 }

-- the most hours of a window
abbrev pub most_hours : ℕ
most_hours = 72

-- this many hours, in seconds
abbrev pub longest_window : ℕ
longest_window = 259200

-- it starts where a journey may, and is not too long
pub record IsWindow (w : Window) : Type 0 where
  pub early : first_start ≤ w.start
  pub late : w.start ≤ last_start
  pub ordered : w.start ≤ w.end
  pub short : w.end ≤ w.start + longest_window
