use Rattle.graph_compact.proofs.Common.{◌≡◌, drop, put_rows}
use Rattle.graph_compact.proofs.put_all.Given as goal

-- the rows that remain are to be put
abbrev pub invariant-loop-row : goal.invariant-loop-row
invariant-loop-row l = put_rows (drop l.row-index l.rows) l.table.keys ≡ put_rows l.rows l.initial.table.keys
