use Rattle.delay_table.proofs.Common.{◌≡◌, None, first_below, type_sum_at, read_outcomes}
use Rattle.delay_table.proofs.sums.type_fault.Given as goal

abbrev pub invariant-loop-index : goal.invariant-loop-index
invariant-loop-index l = first_below (type_sum_at (read_outcomes l.read.groups l.read.rows.items) l.types) l.index ≡ None
