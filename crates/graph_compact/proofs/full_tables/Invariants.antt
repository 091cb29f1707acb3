use Rattle.graph_compact.proofs.Common.{◌≡◌, ◌++◌, drop, lists_of, tables_of}
use Rattle.graph_compact.proofs.full_tables.Given as goal

-- the tables so far, and those of the places that remain
abbrev pub invariant-loop-table : goal.invariant-loop-table
invariant-loop-table l = record {
  full : l.full ++ tables_of l.place (lists_of (drop l.table-index l.tables)) ≡ tables_of 0 (lists_of l.tables);
  place : l.place ≡ l.table-index;
}
