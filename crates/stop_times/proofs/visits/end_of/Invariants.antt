use Rattle.stop_times.proofs.Common.{◌≡◌, ◌≤◌, ◌<◌, ◌-◌, ℕ, length, key_at}
use Rattle.stop_times.proofs.visits.end_of.Given as goal

abbrev pub invariant-loop-end : goal.invariant-loop-end
invariant-loop-end l = record {
  order : l.start ≤ l.end;
  inside : l.end ≤ length l.keys;
  here : (k : ℕ) → l.start ≤ k → k < l.end → (key_at l.keys k).group ≡ l.trip;
}

abbrev pub decreases-loop-end : goal.decreases-loop-end
decreases-loop-end l = length l.keys - l.end
