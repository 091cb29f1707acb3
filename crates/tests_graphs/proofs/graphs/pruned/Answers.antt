use Rattle.tests_graphs.proofs.graphs.pruned.Goals as goal

pub returns-in-Ok-clause-coherent : goal.returns-in-Ok-clause-coherent
returns-in-Ok-clause-coherent c =
    let kept = c.in_ok-graph.ensures.steady in
    c.steady_is_coherent.ensures c.args.network.now c.args.query.now c.in-Ok.pruned kept.choice c.in-Ok.ensures.pruned kept.steady (c.in-Ok.ensures.follows kept.choice kept.follows)
