use Rattle.stop_times.proofs.Common.{◌≤◌, length, false, AreKeys, trip_of, sequence_of, is_taken}
use Rattle.stop_times.proofs.keys.sorted_keys.Given as goal

abbrev pub invariant-loop-i : goal.invariant-loop-i
invariant-loop-i l = AreKeys (is_taken false l.rows) (trip_of l.rows) (sequence_of l.rows) l.i l.keys.items × (length l.keys.items ≤ l.i)
