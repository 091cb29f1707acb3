use Rattle.decision_graph.proofs.{Common.{ap, arith}, AtOnce.{in_time, expanded_at_once, steady_at_once}}
use Rattle.value_laws.specs.Means.{mean_scoring, mean_laws, from_span}
use Rattle.decision_graph.proofs.expanded.expand_means.Goals as goal

pub returns-then-query-clause-plan : goal.returns-then-query-clause-plan
returns-then-query-clause-plan g c =
    let there = in_time c.args.query.now c.at_once.result c.in-Some.graph c.in-Some.is c.at_once.ensures in
    expanded_at_once mean_scoring mean_laws c.args.network.now c.args.query.now c.in-Some.graph _
    c.if-query.true there.0 there.1 (ap from_span c.exact.ensures)

pub returns-then-query-clause-steady : goal.returns-then-query-clause-steady
returns-then-query-clause-steady g c = grind (arith, steady_at_once, in_time)
