use Rattle.lower_proof.proofs.{Common.{length, AreBoards}, Exits.CheckState}
use Rattle.lower_proof.proofs.check.Given as goal

abbrev pub invariant-loop-departure : goal.invariant-loop-departure
invariant-loop-departure l = record {
  state : CheckState l.network l.scope.query l.values l.scope.last.0 l.departures.items l.exits.items;
  boards : AreBoards l.network l.scope.last.0 l.values l.boards.items;
}

abbrev pub decreases-loop-departure : goal.decreases-loop-departure
decreases-loop-departure l = length l.departures.items
