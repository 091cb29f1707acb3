use Rattle.stop_times.proofs.Common.{◌≡◌, length, None, first_below, IsSoonest, repeated_time, backward_time}
use Rattle.stop_times.proofs.keys.first_backward.Given as goal

abbrev pub invariant-loop-k : goal.invariant-loop-k
invariant-loop-k l = first_below (repeated_time l.rows) (length l.rows) ≡ None → IsSoonest (backward_time l.rows) (length l.rows) l.keys l.k l.first
