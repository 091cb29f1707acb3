use Rattle.connections.proofs.Common.{◌≡◌, runs_below}
use Rattle.connections.proofs.runs.runs_of.Given as goal

abbrev pub invariant-loop-d : goal.invariant-loop-d
invariant-loop-d l = l.runs.items ≡ runs_below l.trips.feed.now l.trips.days.now.services l.trips.window l.d
