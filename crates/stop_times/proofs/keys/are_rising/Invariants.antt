use Rattle.stop_times.proofs.RisingRows.{RiseBelow}
use Rattle.stop_times.proofs.keys.are_rising.Given as goal

abbrev pub invariant-loop-i : goal.invariant-loop-i
invariant-loop-i l = RiseBelow l.rows l.i
