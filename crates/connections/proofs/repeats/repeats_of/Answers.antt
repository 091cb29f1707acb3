use Rattle.connections.proofs.{Common.{◌≡◌, length, ap, ◌∙◌, arith, repeat_at, join_below, row_repeats, rows_repeats, in_order}, OrderLemmas.in_order_is}
use Rattle.connections.proofs.repeats.repeats_of.Goals as goal

pub returns : goal.returns
unfolding rows_repeats
returns c =
    let trip = c.args.trip.now in
    let end : c.loop-i.i ≡ length trip.frequencies.now = omega arith in
    in_order_is c.loop-i.repeats.items c.sort_unstable.new.self.items c.sort_unstable.ensures.permutation c.sort_unstable.ensures.sorted
    ∙ ap in_order (c.loop-i.invariant ∙ ap (join_below (λ i. row_repeats trip.window trip.rows.now trip.day (repeat_at trip.frequencies.now i))) end)
