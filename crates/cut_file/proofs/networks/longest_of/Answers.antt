use Rattle.cut_file.proofs.{Common.{arith, length-set, get_or_default, get_or-replicate}, ChangeFacts.{longest-zero, longest_next}}
use Rattle.cut_file.proofs.networks.longest_of.Goals as goal

pub loop-i-init : goal.loop-i-init
loop-i-init c = grind (arith, get_or-replicate, longest-zero)

pub loop-i-preserved : goal.loop-i-preserved
loop-i-preserved c = grind (arith, length-set, longest_next, get_or_default)
