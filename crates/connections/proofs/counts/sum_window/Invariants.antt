use Rattle.connections.proofs.Common.{◌≡◌, ◌-◌, ◌^◌, min, each_of, days_sum}
use Rattle.connections.proofs.counts.sum_window.Given as goal

abbrev pub invariant-loop-d : goal.invariant-loop-d
invariant-loop-d l = l.sum ≡ min (days_sum (each_of l.trips.changes.now l.counted) l.trips.feed.now l.trips.days.now.services l.trips.window l.d) (2 ^ 64 - 1)
