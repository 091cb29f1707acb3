use Rattle.std.proofs.{Common.{◌≡◌, None}, lemmas.Option.MatchOption-at_some}
use Rattle.decision_graph.proofs.BestStrategies.{IsOfStart, steady_choice}
use Rattle.tests_graphs.proofs.graphs.extracted.Goals as goal

pub returns-in-Ok-Some-clause-steady : goal.returns-in-Ok-Some-clause-steady
returns-in-Ok-Some-clause-steady c =
    let found = c.in_ok-scanned.scanned in
    steady_choice c.args.network.now c.args.query.now found c.in-Ok-Some.graph
    (MatchOption-at_some (found.start ≡ None) (IsOfStart c.args.network.now c.args.query.now found) c.in-Ok-Some.graph c.in-Ok-Some.field-0-is c.in-Ok-Some.ensures)
