use Rattle.delay_table.proofs.Common.{◌≡◌, ◌++◌, map, take, type_rows, read_outcomes}
use Rattle.delay_table.proofs.table.add_types.Given as goal

abbrev pub invariant-loop-route_type : goal.invariant-loop-route_type
invariant-loop-route_type l = l.classes ≡ l.initial.classes ++ map (type_rows (read_outcomes l.read.groups l.read.rows.items)) (take l.route_type-index l.types)
