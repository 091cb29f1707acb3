use Rattle.lower_proof.proofs.Common.{◌≡◌, length, IsValid, HaveEntries}
use Rattle.lower_proof.proofs.board.boards.Given as goal

abbrev pub invariant-loop-i : goal.invariant-loop-i
invariant-loop-i l = record {
  valid : IsValid l.network;
  len : length l.boards.items ≡ length l.network.change;
  entries : HaveEntries l.network l.last.0 l.i l.boards.items;
}
