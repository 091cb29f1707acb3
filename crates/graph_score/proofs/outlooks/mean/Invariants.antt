use Rattle.graph_score.proofs.Common.{◌≡◌, ◌+◌, ◌++◌, drop, length, array_vec_len, spans_in}
use Rattle.graph_score.proofs.outlooks.mean.Given as goal

-- the bounds so far, and those that remain
abbrev pub invariant-loop-child : goal.invariant-loop-child
invariant-loop-child l = record {
  copied : l.spans.items ++ spans_in (drop l.child-index l.children) ≡ spans_in l.children;
  count : array_vec_len l.spans + length (spans_in (drop l.child-index l.children)) ≡ length l.row;
}
