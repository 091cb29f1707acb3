use Rattle.departure_table.proofs.Common.{◌≡◌, ◌++◌, replicate}
use Rattle.departure_table.proofs.gates.changes_by.Given as goal

abbrev pub invariant-loop-gate : goal.invariant-loop-gate
invariant-loop-gate l = l.change ≡ l.network.change ++ replicate l.gate 1
