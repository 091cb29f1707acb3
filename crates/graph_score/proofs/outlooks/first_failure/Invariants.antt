use Rattle.graph_score.proofs.Common.{◌≡◌, drop, None, first_failure_of}
use Rattle.graph_score.proofs.outlooks.first_failure.Given as goal

-- the first so far, and those that remain
abbrev pub invariant-loop-child : goal.invariant-loop-child
invariant-loop-child l = first_failure_of l.first (drop l.child-index l.children) ≡ first_failure_of None l.children
