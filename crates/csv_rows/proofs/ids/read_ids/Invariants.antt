use Rattle.csv_rows.proofs.{Common.{◌≡◌, None, first_below, field, repeated_id, list_below}, KeyTexts.key_texts}
use Rattle.csv_rows.proofs.ids.read_ids.Given as goal

abbrev pub invariant-loop-i : goal.invariant-loop-i
invariant-loop-i l = record {
  ids : l.ids ≡ list_below (field l.rows l.fn.column) l.i;
  seen : key_texts l.seen.texts.keys ≡ l.ids;
  none : first_below (repeated_id l.table (field l.rows l.fn.column)) l.i ≡ None;
}
