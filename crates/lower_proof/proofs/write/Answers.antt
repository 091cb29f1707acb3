use Rattle.lower_proof.proofs.Best.{best}
use Rattle.lower_proof.proofs.write.Goals as goal

pub returns-clause-best : goal.returns-clause-best
returns-clause-best c = rw c.from_vec.ensures (best c.args.network.now c.in_ok-values.ensures.valid c.args.query.now c.in_ok-values.values.items c.in_ok-values.ensures.tight)
