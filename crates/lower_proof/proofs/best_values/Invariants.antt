use Rattle.lower_proof.proofs.{Common.length, Written.Written}
use Rattle.lower_proof.proofs.best_values.Given as goal

abbrev pub invariant-loop-departure : goal.invariant-loop-departure
invariant-loop-departure l = record {
  written : Written l.network l.scope.query l.scope.last.0 l.departures.items l.exits.items l.values.items l.boards.items;
}

abbrev pub decreases-loop-departure : goal.decreases-loop-departure
decreases-loop-departure l = length l.departures.items
