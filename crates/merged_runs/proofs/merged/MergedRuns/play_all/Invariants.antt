use Rattle.merged_runs.proofs.{Common.◌≡◌, TournamentLemmas.{AreRead, IsPlayedFrom}}
use Rattle.merged_runs.proofs.merged.MergedRuns.play_all.Given as goal

abbrev pub invariant-loop-run : goal.invariant-loop-run
invariant-loop-run l = record {
  starts : l.self.starts.items ≡ l.initial.self.starts.items;
  remaining : l.self.remaining.items ≡ l.initial.self.remaining.items;
  read : AreRead l.network l.initial.self.starts.items l.initial.self.remaining.items l.run l.self.keys.items;
}

abbrev pub invariant-loop-node : goal.invariant-loop-node
invariant-loop-node l = record {
  starts : l.self.starts.items ≡ l.fn.self.starts.items;
  remaining : l.self.remaining.items ≡ l.fn.self.remaining.items;
  played : IsPlayedFrom l.network l.fn.self.starts.items l.fn.self.remaining.items l.node l.self.keys.items;
}
