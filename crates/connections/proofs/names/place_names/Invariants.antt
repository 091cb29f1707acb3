use Rattle.connections.proofs.Common.{◌≡◌, [], take}
use Rattle.connections.proofs.names.place_names.Given as goal

abbrev pub invariant-loop-stop : goal.invariant-loop-stop
invariant-loop-stop l = (l.names.places ≡ take l.stop l.trips.feed.now.stop_ids) × (l.names.runs ≡ [])
