use Rattle.feed_lists.proofs.Common.{◌≡◌, None, first_below, list_below, unknown_parent, place_from, stop_ids, parent_of}
use Rattle.feed_lists.proofs.stops.read_places.Given as goal

abbrev pub invariant-loop-i : goal.invariant-loop-i
invariant-loop-i l = record {
  places : l.places.items ≡ list_below (λ i. place_from (stop_ids l.rows) (parent_of l.rows i) i) l.i;
  none : first_below (unknown_parent l.rows) l.i ≡ None;
}
