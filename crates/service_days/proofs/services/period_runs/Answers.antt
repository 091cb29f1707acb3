use Rattle.service_days.proofs.Common.{◌∙◌, ap, sym, Some, w32, to_z-of_z, slice_get-get_or, slice_get_past, runs_in_period, runs_within}
use Rattle.service_days.proofs.services.period_runs.Goals as goal

pub returns-in-Some : goal.returns-in-Some
returns-in-Some c =
    let l = c.in-Some.ensures.lookup in
    let here = slice_get-get_or c.args.periods.now c.args.service c.in-Some.period.now l.3.0 ∙ sym (ap Some l.1) in
    c.runs_on.ensures ∙ ap (runs_in_period c.in-Some.period.now) (to_z-of_z w32 c.args.day c.ranges.day) ∙ sym (ap (λ p. runs_within p c.args.day) here)

pub returns-in-None : goal.returns-in-None
returns-in-None c = sym (ap (λ p. runs_within p c.args.day) (slice_get_past c.args.periods.now c.args.service c.in-None.ensures.lookup.3))
