use Rattle.change_times.proofs.{Common.arith, LinkLemmas.{add-walk, by_ok}}
use Rattle.change_times.proofs.links.add_walk.Goals as goal

pub returns-clause-walks : goal.returns-clause-walks
returns-clause-walks c = grind (arith, by_ok, add-walk)
