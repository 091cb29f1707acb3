use Rattle.stop_times.proofs.{Common.{◌∙◌, arith, or_then}, BackLemmas.backward_is}
use Rattle.csv_rows.proofs.FaultLemmas.{match_raised, fault-first}
use Rattle.stop_times.proofs.timetable.in_order.Goals as goal

pub returns-in_err-check_once-clause-reports : goal.returns-in_err-check_once-clause-reports
returns-in_err-check_once-clause-reports c = match_raised _ _ c.from_residual-in_err-check_once.result c.from_residual-in_err-check_once.ensures (fault-first _ _ _ c.in_err-check_once.ensures)

pub returns-in-Some-clause-reports : goal.returns-in-Some-clause-reports
returns-in-Some-clause-reports c = grind (arith, backward_is, or_then)

pub returns-clause-reports : goal.returns-clause-reports
returns-clause-reports c = or_then _ _ _ c.in_ok-check_once.ensures (c.first_backward.ensures c.in_ok-check_once.ensures ∙ c.in_default.is)

pub visits_of-requires-clause-few : goal.visits_of-requires-clause-few
visits_of-requires-clause-few c = omega (arith, c.in_ok-keys.ensures.few)
