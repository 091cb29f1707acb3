use Rattle.connections.proofs.Common.{◌≡◌, ℕ, ◌<◌, AreRunNames, IsSmallRepeat, run_at}
use Rattle.connections.proofs.names.names_of.Given as goal

abbrev pub invariant-loop-r : goal.invariant-loop-r
invariant-loop-r l =
    AreRunNames l.runs.trips.now.feed.now l.runs.list.now l.r l.names.runs × (l.names.places ≡ l.runs.trips.now.feed.now.stop_ids)
    × ((k : ℕ) → k < l.r → IsSmallRepeat (run_at l.runs.list.now k).repeat)
