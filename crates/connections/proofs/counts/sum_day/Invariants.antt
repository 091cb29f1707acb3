use Rattle.connections.proofs.Common.{◌≡◌, ◌-◌, ◌^◌, min, each_of, day_sum}
use Rattle.connections.proofs.counts.sum_day.Given as goal

abbrev pub invariant-loop-number : goal.invariant-loop-number
invariant-loop-number l = l.sum ≡ min (day_sum (each_of l.trips.changes.now l.counted) l.trips.feed.now l.trips.days.now.services l.trips.window l.day l.number) (2 ^ 64 - 1)
