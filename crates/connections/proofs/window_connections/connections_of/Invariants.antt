use Rattle.connections.proofs.Common.{◌≡◌, connections_below}
use Rattle.connections.proofs.window_connections.connections_of.Given as goal

abbrev pub invariant-loop-r : goal.invariant-loop-r
invariant-loop-r l = l.connections.items ≡ connections_below l.runs.trips.now.feed.now l.delays l.runs.trips.now.window l.runs.list.now l.r
