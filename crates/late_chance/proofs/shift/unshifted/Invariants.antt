use Rattle.late_chance.proofs.Common.{◌≡◌, map, take, later_table}
use Rattle.late_chance.proofs.shift.unshifted.Given as goal

abbrev pub invariant-loop-table : goal.invariant-loop-table
invariant-loop-table l = l.tables.items ≡ map (later_table l.seconds) (take l.table-index l.graph.tables)
