use Rattle.graph_score.proofs.Looks.{AreCollected}
use Rattle.graph_score.proofs.outlooks.outlooks_of.Given as goal

abbrev pub invariant-loop-exit : goal.invariant-loop-exit
invariant-loop-exit l = AreCollected l.network l.query l.rising.graph.now.tables l.initial.exits.items l.exits.items l.outlooks.items

abbrev pub decreases-loop-exit : goal.decreases-loop-exit
decreases-loop-exit l = goal.left-loop-exit l
