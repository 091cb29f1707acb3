use Rattle.delay_table.proofs.Common.{arith, first-zero, first-next, first-at, group_sum_at, line_at, read_outcomes}
use Rattle.delay_table.proofs.sums.group_fault.Goals as goal

pub loop-index-init : goal.loop-index-init
loop-index-init c = first-zero (group_sum_at (read_outcomes c.args.read.now.groups c.args.read.now.rows.items) c.args.read.now.groups (line_at c.args.read.now.rows.items))

pub loop-index-preserved-then-is_plain : goal.loop-index-preserved-then-is_plain
loop-index-preserved-then-is_plain c = grind (arith, first-next)

pub returns-in-Some : goal.returns-in-Some
returns-in-Some c = grind (arith, first-at)

pub loop-index-preserved : goal.loop-index-preserved
loop-index-preserved c = grind (arith, first-next)
