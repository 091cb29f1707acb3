-- The types of what a window has, and of what is read of stop times and frequencies: those of values that the crates below name.
use Rattle.connections.specs.{Window.{window_of, day_at}, TripRuns.no_run, RepeatedRuns.repeat_of}
use Rattle.gtfs_tables.specs.Timed.{repeat_at}
use Rattle.stop_times.specs.StopTimes.{no_row}
use Rattle.trip_frequencies.specs.Frequencies.{no_frequency}
use Rattle.std.specs.Prelude.{[]}

abbrev TypeOf : {A : Type 0} → A → Type 0
TypeOf {A} a = A

abbrev pub Window : Type 0
Window = TypeOf (window_of 0 0)

abbrev pub ServiceDay : Type 0
ServiceDay = TypeOf (day_at (window_of 0 0) 0)

abbrev pub Run : Type 0
Run = TypeOf no_run

abbrev pub Origin : Type 0
Origin = TypeOf no_run.origin

abbrev pub Repeat : Type 0
Repeat = TypeOf (repeat_of (repeat_at [] 0) 0)

abbrev pub TimedRow : Type 0
TimedRow = TypeOf no_row

abbrev pub TripFrequency : Type 0
TripFrequency = TypeOf no_frequency
