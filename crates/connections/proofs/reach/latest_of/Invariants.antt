use Rattle.connections.proofs.Common.{AreOverBy}
use Rattle.connections.proofs.reach.latest_of.Given as goal

abbrev pub invariant-loop-trip : goal.invariant-loop-trip
invariant-loop-trip l = AreOverBy l.feed l.trip l.latest
