use Rattle.graph_score.proofs.Common.{◌≡◌, ◌++◌, drop, flat_map, legs_in, legs_of}
use Rattle.graph_score.proofs.legs.legs_of.Given as goal

-- the legs so far, and those that remain
abbrev pub invariant-loop-table : goal.invariant-loop-table
invariant-loop-table l = record {
  tables : l.table-items ≡ l.graph.tables;
  legs : l.legs.items ++ flat_map legs_in (drop l.table-index l.table-items) ≡ legs_of l.graph;
}
