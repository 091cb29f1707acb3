use Rattle.merged_runs.proofs.{Common.◌≡◌, TournamentLemmas.IsPlayedAround}
use Rattle.merged_runs.proofs.merged.MergedRuns.give.Given as goal

abbrev pub invariant-loop-node : goal.invariant-loop-node
invariant-loop-node l = record {
  starts : l.self.starts.items ≡ l.initial.self.starts.items;
  remaining : l.self.remaining.items ≡ l.initial.self.remaining.items;
  played : IsPlayedAround l.network l.initial.self.starts.items l.initial.self.remaining.items l.run l.node l.self.keys.items;
}

abbrev pub decreases-loop-node : goal.decreases-loop-node
decreases-loop-node l = l.node
