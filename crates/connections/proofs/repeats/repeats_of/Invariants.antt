use Rattle.connections.proofs.Common.{◌≡◌, repeat_at, join_below, row_repeats}
use Rattle.connections.proofs.repeats.repeats_of.Given as goal

abbrev pub invariant-loop-i : goal.invariant-loop-i
invariant-loop-i l = l.repeats.items ≡ join_below (λ i. row_repeats l.trip.window l.trip.rows.now l.trip.day (repeat_at l.trip.frequencies.now i)) l.i
