use Rattle.meat_scan.proofs.{Common.{nat_le, arith, nat_tests, written_back, connection}, Reserves.count_by-take_more, boardable_counts.Goals.{then-connection-last, else-connection-last}}
use Rattle.meat_scan.proofs.boardable_counts.Goals as goal

pub loop-id-preserved : goal.loop-id-preserved
unfolding connection
loop-id-preserved c = grind (arith, count_by-take_more, then-connection-last, written_back, nat_le, nat_tests, else-connection-last)
