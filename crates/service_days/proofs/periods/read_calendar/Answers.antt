use Rattle.service_days.proofs.PeriodLemmas.{periods_named}
use Rattle.service_days.proofs.periods.read_calendar.Goals as goal

pub read_ids-requires-clause-named : goal.read_ids-requires-clause-named
read_ids-requires-clause-named c = periods_named c.args.rows.now c.in_ok-periods.ensures.reports
