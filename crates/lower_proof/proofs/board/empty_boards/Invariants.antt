use Rattle.lower_proof.proofs.{Common.{◌≡◌, ℕ, length, board_at}, Entries.no_board}
use Rattle.lower_proof.proofs.board.empty_boards.Given as goal

abbrev pub invariant-loop : goal.invariant-loop
invariant-loop l = record {
  len : length l.boards.items ≡ l.counter;
  empty : (p : ℕ) → board_at l.boards.items p ≡ no_board;
}
