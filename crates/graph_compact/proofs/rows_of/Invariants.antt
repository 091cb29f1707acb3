use Rattle.graph_compact.proofs.Common.{◌≡◌, ◌++◌}
use Rattle.graph_compact.proofs.rows_of.Given as goal

-- the rows so far, and those that remain
abbrev pub invariant-loop-row : goal.invariant-loop-row
invariant-loop-row l = l.rows ++ l.row-iterator ≡ l.table.keys
