use Rattle.connections.proofs.Common.{◌≡◌, ◌++◌, day_runs}
use Rattle.connections.proofs.runs.add_day.Given as goal

abbrev pub invariant-loop-number : goal.invariant-loop-number
invariant-loop-number l = l.runs.items ≡ l.initial.runs.items ++ day_runs l.trips.feed.now l.trips.days.now.services l.trips.window l.day l.number
