use Rattle.connections.proofs.Common.{◌≡◌, ◌-◌, ◌^◌, min, each_of, rows_sum}
use Rattle.connections.proofs.counts.sum_repeats.Given as goal

abbrev pub invariant-loop-i : goal.invariant-loop-i
invariant-loop-i l = l.sum ≡ min (rows_sum (each_of l.changes l.counted) l.trip.window l.trip.rows.now l.trip.day l.trip.frequencies.now l.i) (2 ^ 64 - 1)
