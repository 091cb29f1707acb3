use Rattle.decision_graph.proofs.Common.{arith}
use Rattle.decision_graph.proofs.planned.compacted.Goals as goal

pub compact-requires-clause-coherent : goal.compact-requires-clause-coherent
compact-requires-clause-coherent g c =
    let kept = c.requires.steady in
    c.steady_is_coherent.ensures c.args.network.now c.args.query.now c.in_ok-pruned.pruned kept.choice c.in_ok-pruned.ensures.pruned kept.steady
    (c.in_ok-pruned.ensures.follows kept.choice kept.follows)

pub returns : goal.returns
returns g c = grind arith
