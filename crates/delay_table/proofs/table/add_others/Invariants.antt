use Rattle.delay_table.proofs.Common.{◌≡◌, ◌++◌, map, others, read_outcomes}
use Rattle.delay_table.proofs.table.add_others.Given as goal

abbrev pub invariant-loop-index : goal.invariant-loop-index
invariant-loop-index l = l.classes ≡ l.initial.classes ++ map (read_outcomes l.read.groups l.read.rows.items) (others l.read.groups l.index)
