use Rattle.graph_text.proofs.Common.{◌≡◌, drop, tables_leave}
use Rattle.graph_text.proofs.version.tables_leave.Given as goal

-- what remains gives what all of it does
abbrev pub invariant-loop-table : goal.invariant-loop-table
invariant-loop-table l = tables_leave l.network l.tables ≡ tables_leave l.network (drop l.table-index l.tables)
