use Rattle.connections.proofs.Common.{◌≡◌, ◌++◌, map, IfSome, steps_below, class_of_trip, connection_from, IsClassOfHour}
use Rattle.connections.proofs.window_connections.add_connections.Given as goal

abbrev pub invariant-loop-row : goal.invariant-loop-row
invariant-loop-row l = record {
  connections : l.connections.items ≡ l.initial.connections.items ++ map
      (connection_from l.run.rows.now l.run.origin l.run.number (class_of_trip l.run.feed.now l.run.delays.now l.run.trip)) (steps_below l.window l.run.rows.now l.run.origin l.row);
  known : IfSome l.known (IsClassOfHour l.run.feed.now l.run.delays.now l.run.trip);
}
