use Rattle.connections.proofs.Common.{◌≡◌, list_below, place_seconds, AreChanges}
use Rattle.connections.proofs.cuts.changes_of.Given as goal

abbrev pub invariant-loop-place : goal.invariant-loop-place
invariant-loop-place l = (l.change ≡ list_below (place_seconds l.changes) l.place) × AreChanges l.change
