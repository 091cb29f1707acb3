use Rattle.service_days.proofs.Common.{None, sym, ap, ◌∙◌, arith, result_err, match_raised, fault-at, first-zero, first-next, list_below-zero, list_below-next, bad_period, period_of}
use Rattle.service_days.proofs.{Common.period_or_none, PeriodLemmas.period_is}
use Rattle.service_days.proofs.periods.read_periods.Goals as goal

pub loop-i-init : goal.loop-i-init
loop-i-init c = grind (arith, list_below-zero, first-zero)

pub returns-in_err-period-clause-reports : goal.returns-in_err-period-clause-reports
returns-in_err-period-clause-reports c = match_raised _ _ c.from_residual.result c.from_residual.ensures
    (fault-at _ c.loop-i.i _ (omega arith) c.loop-i.invariant.none
    (ap result_err (period_is c.args.rows.now _ c.loop-i.i c.period_columns-columns.ensures)) c.in_err-period.ensures.reports)

pub loop-i-preserved : goal.loop-i-preserved
loop-i-preserved c =
    let t = c.args.rows.now in
    let here = period_is t _ c.loop-i.i c.period_columns-columns.ensures ∙ c.in_ok-period.ensures.period in
    record {
      periods = list_below-next (period_of t) c.loop-i.i c.loop-i.periods.items c.push.new.self.items c.in_ok-period.period c.loop-i.invariant.periods
          c.in_ok-push.ensures.items (sym (ap period_or_none here));
      none = first-next (bad_period t) c.loop-i.i None c.loop-i.invariant.none (ap result_err here);
    }
