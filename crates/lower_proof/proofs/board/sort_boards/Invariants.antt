use Rattle.lower_proof.proofs.{Common.{◌≡◌, ℕ, length, count, HaveEntries, NetworkModel}, Entries.AreSorted}
use Rattle.lower_proof.proofs.board.sort_boards.Given as goal

abbrev pub invariant-loop-p : goal.invariant-loop-p
invariant-loop-p l = record {
  len : length l.boards ≡ length l.initial.boards;
  sorted : (n : NetworkModel) (last : ℕ) → length l.initial.boards ≡ length n.change → HaveEntries n last (count n) l.initial.boards → AreSorted n last l.p l.boards;
}
