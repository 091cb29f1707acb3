use Rattle.connections.proofs.{Common.{◌-◌, ◌^◌, min, length, ap, ◌∙◌, arith, ServiceDay, day_at, each_of, day_sum, days_sum}, CountLemmas.sum-next}
use Rattle.connections.proofs.counts.sum_window.Goals as goal

pub loop-d-preserved : goal.loop-d-preserved
unfolding days_sum
loop-d-preserved c =
    let f = c.args.trips.now.feed.now in let s = c.args.trips.now.days.now.services in let w = c.args.trips.now.window in
    let each = each_of c.args.trips.now.changes.now c.args.counted in
    let here = c.sum_day-day.ensures ∙ ap (λ (day : ServiceDay). min (day_sum each f s w day (length f.trip_ids)) (2 ^ 64 - 1)) c.day.ensures in
    omega (arith, sum-next (λ d. day_sum each f s w (day_at w d) (length f.trip_ids)) c.loop-d.d, c.loop-d.invariant, here, c.saturating_add-sum.ensures)
