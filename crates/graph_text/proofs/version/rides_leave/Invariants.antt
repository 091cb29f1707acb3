use Rattle.graph_text.proofs.Common.{◌≡◌, drop, rides_leave}
use Rattle.graph_text.proofs.version.rides_leave.Given as goal

-- what remains gives what all of it does
abbrev pub invariant-loop-ride : goal.invariant-loop-ride
invariant-loop-ride l = rides_leave l.network l.rides ≡ rides_leave l.network (drop l.ride-index l.rides)
