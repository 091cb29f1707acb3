use Rattle.lower_proof.proofs.{Common.{ℕ, ◌+◌, ◌*◌, ◌≤◌, drop, take, sum_by, AreBoards, AllLate}, Vias.Weighed}
use Rattle.lower_proof.proofs.via.Given as goal

-- the sum so far, and room for what remains at the greatest values
abbrev pub invariant-loop-outcome : goal.invariant-loop-outcome
invariant-loop-outcome l = record {
  weighed : Weighed l.site.network.now l.site.scope.now.query l.values l.connection.to.0 l.connection.arr.0 (take l.outcome-index l.outcome-items) l.sum;
  room : l.sum + 18446744073709551615 * sum_by (λ o. o.weight) (drop l.outcome-index l.outcome-items) ≤ 184467440737095516150000;
  boards : AreBoards l.site.network.now l.site.scope.now.last.0 l.values l.boards;
  late : (m : ℕ) → m ≤ l.connection.arr.0 → AllLate m l.initial.boards → AllLate m l.boards;
}
