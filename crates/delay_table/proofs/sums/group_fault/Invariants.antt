use Rattle.delay_table.proofs.Common.{◌≡◌, None, first_below, group_sum_at, line_at, read_outcomes}
use Rattle.delay_table.proofs.sums.group_fault.Given as goal

abbrev pub invariant-loop-index : goal.invariant-loop-index
invariant-loop-index l = first_below (group_sum_at (read_outcomes l.read.groups l.read.rows.items) l.read.groups (line_at l.read.rows.items)) l.index ≡ None
