use Rattle.change_times.proofs.{Common.{◌-◌, arith, get_or_default}, LinkLemmas.put-raised}
use Rattle.change_times.proofs.links.Ways.put.Goals as goal

pub returns-then-index-from : goal.returns-then-index-from
returns-then-index-from c = λ base o before e. grind (arith, get_or_default, put-raised)
