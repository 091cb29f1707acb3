use Rattle.stop_times.proofs.Common.{◌≡◌, ◌≤◌, ◌+◌, ◌∷◌, None, drop, length, value_or, first_below, list_below, bad_time, timed_at, no_row, named_of, IsKnownIn}
use Rattle.stop_times.proofs.table_rows.rows_after.Given as goal

abbrev pub invariant-loop-order : goal.invariant-loop-order
invariant-loop-order l = record {
  remaining : drop (length l.timed.items + 1) (l.initial.row ∷ l.initial.records) ≡ l.records;
  inside : length l.timed.items ≤ length l.initial.records;
  few : length l.timed.items ≤ l.limits.stop_times;
  rows : l.timed.items ≡ list_below (λ i. value_or no_row (timed_at (named_of l.named) (l.initial.row ∷ l.initial.records) i)) (length l.timed.items);
  none : first_below (bad_time (named_of l.named) (l.initial.row ∷ l.initial.records)) (length l.timed.items) ≡ None;
  known : IsKnownIn l.named.trips l.known;
}

abbrev pub decreases-loop-order : goal.decreases-loop-order
decreases-loop-order l = length l.records
