use Rattle.connections.proofs.Common.{◌≡◌, ◌-◌, ◌^◌, min, sum_below, each_of, leaving_sum}
use Rattle.connections.proofs.counts.sum_row.Given as goal

abbrev pub invariant-loop-k : goal.invariant-loop-k
invariant-loop-k l = l.sum ≡ min (sum_below (leaving_sum (each_of l.changes l.counted) l.trip.window l.trip.rows.now l.trip.day l.row) l.k) (2 ^ 64 - 1)
