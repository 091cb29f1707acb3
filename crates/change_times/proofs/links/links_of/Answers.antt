use Rattle.change_times.proofs.{Common.{arith, get_or_default}, LinkLemmas.{ways-zero, ways-next, ways_before}}
use Rattle.change_times.proofs.links.links_of.Goals as goal

pub loop-from-init : goal.loop-from-init
loop-from-init c = grind (arith, ways-zero)

pub loop-from-preserved : goal.loop-from-preserved
loop-from-preserved c = grind (arith, get_or_default, ways_before, ways-next)
