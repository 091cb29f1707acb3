use Rattle.stop_times.proofs.Common.{◌≡◌, ◌≤◌, ◌<◌, ◌+◌, ℕ, length, slice_index, key_at, IsSpanOf}
use Rattle.stop_times.proofs.visits.bounds_of.Given as goal

abbrev pub invariant-loop-trip : goal.invariant-loop-trip
invariant-loop-trip l = record {
  inside : l.end ≤ length l.keys;
  before : (k : ℕ) → k < l.end → (key_at l.keys k).group < l.trip;
  after : (k : ℕ) → l.end ≤ k → k < length l.keys → l.trip ≤ (key_at l.keys k).group;
  size : length l.bounds.items ≡ l.trip + 1;
  last : slice_index l.bounds.items l.trip ≡ l.end;
  spans : (t : ℕ) → t < l.trip → IsSpanOf l.keys t (slice_index l.bounds.items t) (slice_index l.bounds.items (t + 1));
}
