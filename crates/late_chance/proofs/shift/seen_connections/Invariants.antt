use Rattle.late_chance.proofs.Common.{◌≡◌, map, take, shifted_connection}
use Rattle.late_chance.proofs.shift.seen_connections.Given as goal

abbrev pub invariant-loop-id : goal.invariant-loop-id
invariant-loop-id l = l.seen.items ≡ map (shifted_connection l.shift l.start.0) (take l.id l.network.connections)
