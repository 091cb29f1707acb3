use Rattle.graph_text.proofs.Common.{◌≡◌, drop, rows_leave}
use Rattle.graph_text.proofs.version.rows_leave.Given as goal

-- what remains gives what all of it does
abbrev pub invariant-loop-row : goal.invariant-loop-row
invariant-loop-row l = rows_leave l.network l.place.0 l.rows ≡ rows_leave l.network l.place.0 (drop l.row-index l.rows)
