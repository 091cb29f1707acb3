use Rattle.lower_proof.proofs.{Common.{◌≡◌, length, HaveEntries}, Entries.HaveWays}
use Rattle.lower_proof.proofs.board.add_entries.Given as goal

abbrev pub invariant-loop-k : goal.invariant-loop-k
invariant-loop-k l = record {
  len : length l.boards ≡ length l.network.change;
  ways : HaveEntries l.network l.fn.last.0 l.id.0 l.initial.boards → HaveWays l.network l.fn.last.0 l.id.0 l.k l.boards;
}
