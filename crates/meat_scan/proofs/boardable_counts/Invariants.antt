use Rattle.meat_scan.proofs.Common.{◌≡◌, ℕ, ◌<◌, length, get_or, take, count_by, IsValid, is_boardable_by}
use Rattle.meat_scan.proofs.boardable_counts.Given as goal

abbrev pub invariant-loop-id : goal.invariant-loop-id
invariant-loop-id l = record {
  valid : IsValid l.network;
  len : length l.room.items ≡ length l.network.change;
  counts : (place : ℕ) → place < length l.network.change → get_or l.room.items place 0 ≡ count_by (λ c. is_boardable_by l.network l.last.0 place c) (take l.id l.network.connections);
}
