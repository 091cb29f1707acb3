use Rattle.delay_table.proofs.{Common.{append-nil, arith}, Others.{others-zero, other-rows-next}}
use Rattle.delay_table.proofs.table.add_others.Goals as goal

pub loop-index-init : goal.loop-index-init
loop-index-init c = grind (arith, others-zero, append-nil)

pub loop-index-preserved-then-is_plain : goal.loop-index-preserved-then-is_plain
loop-index-preserved-then-is_plain c = grind (arith, append-nil, other-rows-next)

pub loop-index-preserved : goal.loop-index-preserved
loop-index-preserved c = grind (arith, other-rows-next)
