use Rattle.decision_graph.proofs.{Common.{◌≡◌, None, MatchOption-at_some, arith}, AtOnce.{in_time, expanded_at_once, steady_at_once}, BestStrategies.{IsOfStart, expanded, steady_choice}}
use Rattle.decision_graph.proofs.expanded.expand_by.Goals as goal

pub returns-then-query-clause-plan : goal.returns-then-query-clause-plan
returns-then-query-clause-plan g c =
    let there = in_time c.args.query.now c.at_once.result c.in-Some.graph c.in-Some.is c.at_once.ensures in
    expanded_at_once g.V.Score.scoring g.V.Score.laws c.args.network.now c.args.query.now c.in-Some.graph c.arrive.result
    c.if-query.true there.0 there.1 c.arrive.ensures

pub returns-then-query-clause-steady : goal.returns-then-query-clause-steady
returns-then-query-clause-steady g c = grind (arith, steady_at_once, in_time)

pub returns-clause-plan : goal.returns-clause-plan
returns-clause-plan g c =
    let found = c.scan-scanned.result in
    expanded g.V.Score.scoring c.args.network.now c.args.query.now found
    c.scan-scanned.ensures.solves _ c.requires.whole c.scan-scanned.ensures.rules _ c.in-Some-start.ensures c.in-Some-2.graph
    (MatchOption-at_some (found.start ≡ None) (IsOfStart c.args.network.now c.args.query.now found) c.in-Some-2.graph c.in-Some-2.is c.in_ok-extract.ensures)

pub returns-clause-steady : goal.returns-clause-steady
returns-clause-steady g c =
    let found = c.scan-scanned.result in
    steady_choice c.args.network.now c.args.query.now found c.in-Some-2.graph
    (MatchOption-at_some (found.start ≡ None) (IsOfStart c.args.network.now c.args.query.now found) c.in-Some-2.graph c.in-Some-2.is c.in_ok-extract.ensures)
