use Rattle.csv_rows.proofs.{Common.{ℕ, true, AreSorted, twin_at}, SoonestLemmas.IsSoonest}
use Rattle.csv_rows.proofs.keys.first_repeat.Given as goal

abbrev pub invariant-loop-k : goal.invariant-loop-k
invariant-loop-k l = (group order : ℕ → ℕ) (count : ℕ) → AreSorted (λ i. true) group order count l.keys → IsSoonest (twin_at group order) count l.keys l.k l.first
