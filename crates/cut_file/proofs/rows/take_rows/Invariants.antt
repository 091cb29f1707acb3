use Rattle.cut_file.proofs.Common.{◌≡◌, ℕ, ◌<◌, ◌≤◌, ◌*◌, length, None, slice_index_or, IfSome, first_below, CutRow, bad_field, row, run_names, place_names, IsNumbered}
use Rattle.cut_file.proofs.rows.take_rows.Given as goal

abbrev pub invariant-loop-i : goal.invariant-loop-i
invariant-loop-i l = record {
  none : first_below (bad_field l.table.rows.now) l.i ≡ None;
  size : length l.cut.items ≡ l.i;
  each : (k : ℕ) (d : CutRow) → k < l.i → IsNumbered l.names.runs l.names.places (row l.table.rows.now k) (slice_index_or l.cut.items k d);
  runs : l.names.runs ≡ run_names l.table.rows.now l.i;
  places : l.names.places ≡ place_names l.table.rows.now l.i;
  few_runs : length l.names.runs ≤ l.i;
  few_places : length l.names.places ≤ 2 * l.i;
  run_before : IfSome l.before (λ b. b.run < length l.names.runs);
  end_before : IfSome l.before (λ b. b.to < length l.names.places);
}
