use Rattle.service_days.proofs.Common.{◌≡◌, None, first_below, bad_period, period_of}
use Rattle.csv_rows.specs.Lists.{list_below}
use Rattle.service_days.proofs.periods.read_periods.Given as goal

abbrev pub invariant-loop-i : goal.invariant-loop-i
invariant-loop-i l = record {
  periods : l.periods.items ≡ list_below (period_of l.rows) l.i;
  none : first_below (bad_period l.rows) l.i ≡ None;
}
