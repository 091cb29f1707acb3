use Rattle.merged_runs.proofs.StartLemmas.{AreStartsBelow}
use Rattle.merged_runs.proofs.merged.starts_of.Given as goal

abbrev pub invariant-loop-i : goal.invariant-loop-i
invariant-loop-i l = AreStartsBelow l.network l.i l.starts.items
