use Rattle.merged_runs.proofs.{Common.◌≡◌, SkipLemmas.AreLowered}
use Rattle.merged_runs.proofs.merged.MergedRunsBackwardOrder.skip_after.Given as goal

abbrev pub invariant-loop-run : goal.invariant-loop-run
invariant-loop-run l = record {
  starts : l.self.starts.items ≡ l.initial.self.starts.items;
  keys : l.self.keys.items ≡ l.initial.self.keys.items;
  lowered : AreLowered l.network l.last.0 l.initial.self.starts.items l.initial.self.remaining.items l.run l.self.remaining.items;
}
