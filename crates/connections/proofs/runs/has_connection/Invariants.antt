use Rattle.connections.proofs.Common.{◌≡◌, [], steps_below}
use Rattle.connections.proofs.runs.has_connection.Given as goal

abbrev pub invariant-loop-k : goal.invariant-loop-k
invariant-loop-k l = steps_below l.window l.rows l.origin l.k ≡ []
