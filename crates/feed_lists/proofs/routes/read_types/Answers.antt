use Rattle.feed_lists.proofs.{Common.{◌≡◌, ◌∙◌, sym, ap, arith, row_count, list_below, first_below, result_err, match_raised, fault-at}, RouteLemmas.route_is}
use Rattle.feed_lists.proofs.routes.read_types.Goals as goal

pub returns-in_err-route-clause-reports : goal.returns-in_err-route-clause-reports
returns-in_err-route-clause-reports c = match_raised _ _ c.from_residual.result c.from_residual.ensures
    (fault-at _ c.loop-i.i _ (omega arith) c.loop-i.invariant.none
    (ap result_err (route_is c.args.rows.now _ c.loop-i.i c.route_columns-columns.ensures)) c.in_err-route.ensures.reports)

pub returns : goal.returns
returns c =
    let all : c.loop-i.i ≡ row_count c.args.rows.now = omega (arith, c.count-i-end.ensures.count) in
    record { types = c.loop-i.invariant.types ∙ ap (list_below _) all; reports = sym (ap (first_below _) all) ∙ c.loop-i.invariant.none }
