use Rattle.feed_lists.proofs.{Common.{ap, arith, map-append, result_err, match_raised, fault-at, first-zero, first-next, list_below-zero, list_below-next}, StopLemmas.stop_is}
use Rattle.feed_lists.proofs.stops.read_parents.Goals as goal

pub loop-i-init : goal.loop-i-init
loop-i-init c = grind (arith, list_below-zero, first-zero)

pub returns-in_err-stop-clause-reports : goal.returns-in_err-stop-clause-reports
returns-in_err-stop-clause-reports c = match_raised _ _ c.from_residual.result c.from_residual.ensures
    (fault-at _ c.loop-i.i _ (omega arith) c.loop-i.invariant.none
    (ap result_err (stop_is c.args.rows.now _ c.loop-i.i c.stop_columns-columns.ensures)) c.in_err-stop.ensures.reports)

pub loop-i-preserved : goal.loop-i-preserved
loop-i-preserved c = grind (arith, stop_is, list_below-next, first-next, map-append)
