use Rattle.trip_frequencies.proofs.Common.{true, AreKeys, trip_of_row, start_of_row}
use Rattle.trip_frequencies.proofs.frequencies.keys_by_start.Given as goal

abbrev pub invariant-loop-i : goal.invariant-loop-i
invariant-loop-i l = AreKeys (λ i. true) (trip_of_row l.rows) (start_of_row l.rows) l.i l.keys.items
