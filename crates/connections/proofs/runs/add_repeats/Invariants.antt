use Rattle.connections.proofs.Common.{◌≡◌, ◌++◌, map, take, repeat_run}
use Rattle.connections.proofs.runs.add_repeats.Given as goal

abbrev pub invariant-loop-k : goal.invariant-loop-k
invariant-loop-k l = l.runs.items ≡ l.initial.runs.items ++ map (repeat_run l.trip.rows.now l.trip.day l.number) (take l.k l.repeats)
