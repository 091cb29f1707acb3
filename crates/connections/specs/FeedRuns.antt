-- What holds of the runs of a feed, and the service days on which its trips may run in a window.
use Rattle.std.specs.Prelude.{◌≡◌, ℕ, pos, ◌+ℤ◌, ◌≤ℤ◌, ◌<◌, ◌^◌, List, length, Option, Some, None, ◌≤◌, []}
use Rattle.clock_text.specs.Civil.{last_day}
use Rattle.gtfs_tables.specs.{Feeds.FeedParts, Timed.{rows_of, kept_at}}
use Rattle.connections.specs.{declared.{origins.ServiceDay.ServiceDay, repeats.Repeat.Repeat, runs.Run.Run, window.Window.Window}, TripRuns.{run_at, run_steps}}
use Rattle.connections.specs.{TripRuns.frequencies_of, Origins.origin_of_day, Steps.steps_of}

-- a day of the windows: from 1969-12-25 to 9999-12-31
pub record IsDay (day : ServiceDay) : Type 0 where
  pub from : pos 0 ≤ℤ (day.number +ℤ pos 7)
  pub to : day.number ≤ℤ pos last_day

-- its numbers fit 64 bits
abbrev pub IsSmallRepeat : Option Repeat → Type 0
IsSmallRepeat None = Unit {0}
IsSmallRepeat (Some r) = (r.departure < 2 ^ 64) × (r.line < 2 ^ 64)

-- its trip is one of the feed, and its day is a date
pub record IsRunOfFeed (f : FeedParts) (run : Run) : Type 0 where
  pub trip : run.trip < length f.trip_ids
  pub day : IsDay run.origin.day

-- no run is twice
pub record AreRunsOf (f : FeedParts) (rs : List Run) : Type 0 where
  pub each : (r : ℕ) → r < length rs → IsRunOfFeed f (run_at rs r)
  pub apart : (i j : ℕ) → i < j → j < length rs → (run_at rs i).origin.day.number ≡ (run_at rs j).origin.day.number
      → (run_at rs i).trip ≡ (run_at rs j).trip → (run_at rs i).repeat ≡ (run_at rs j).repeat → ⊥

-- each has a connection in the window
abbrev pub HaveConnections : FeedParts → Window → List Run → Type 0
HaveConnections f w rs = (r : ℕ) → r < length rs → 0 < length (run_steps f w (run_at rs r))

-- the first n trips do not repeat, and none of them departs after this second of its service day
pub record AreOverBy (f : FeedParts) (n latest : ℕ) : Type 0 where
  pub once : (trip : ℕ) → trip < n → frequencies_of f trip ≡ []
  pub over : (trip k : ℕ) → trip < n → k < length (rows_of f trip) → (kept_at (rows_of f trip) k).departure ≤ latest

-- no trip repeats, or departs in the window on this service day
pub record NoneRuns (f : FeedParts) (w : Window) (day : ServiceDay) : Type 0 where
  pub once : (trip : ℕ) → trip < length f.trip_ids → frequencies_of f trip ≡ []
  pub none : (trip : ℕ) → trip < length f.trip_ids → steps_of w (rows_of f trip) (origin_of_day day) ≡ []
