use Rattle.trip_replay.proofs.Common.{◌≡◌, drop, has_delay}
use Rattle.trip_replay.proofs.arrival_of.Given as goal

-- no outcome so far has the delay
abbrev pub invariant-loop-outcome : goal.invariant-loop-outcome
invariant-loop-outcome l = has_delay l.outcome-items l.delay ≡ has_delay (drop l.outcome-index l.outcome-items) l.delay
