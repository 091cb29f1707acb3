use Rattle.stop_times.proofs.Common.{◌≡◌, ℕ, ◌<◌, get_or, []}
use Rattle.stop_times.proofs.records.Record.index_named.Given as goal

abbrev pub invariant-loop-i : goal.invariant-loop-i
invariant-loop-i l = (k : ℕ) → k < l.i → get_or l.self k [] ≡ l.name → ⊥
