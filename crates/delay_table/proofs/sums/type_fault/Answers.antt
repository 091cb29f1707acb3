use Rattle.delay_table.proofs.Common.{arith, first-zero, first-next, first-at, type_sum_at, read_outcomes}
use Rattle.delay_table.proofs.sums.type_fault.Goals as goal

pub loop-index-init : goal.loop-index-init
loop-index-init c = first-zero (type_sum_at (read_outcomes c.args.read.now.groups c.args.read.now.rows.items) c.args.types.now)

pub returns-in-Some : goal.returns-in-Some
returns-in-Some c = grind (arith, first-at)

pub loop-index-preserved : goal.loop-index-preserved
loop-index-preserved c = grind (arith, first-next)
