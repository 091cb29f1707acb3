use Rattle.graph_score.proofs.Common.{◌≡◌, take, array_vec_len, outlooks_after}
use Rattle.graph_score.proofs.outlooks.outlook_of.Given as goal

-- what comes of the outcomes so far
abbrev pub invariant-loop-outcome : goal.invariant-loop-outcome
invariant-loop-outcome l = record {
  reported : l.children.items ≡ outlooks_after l.rising.graph.now.tables l.query l.outlooks l.exit.to.0 l.exit.arr.0 (take l.outcome-index l.row);
  count : array_vec_len l.children ≡ l.outcome-index;
}
