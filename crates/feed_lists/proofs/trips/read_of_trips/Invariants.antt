use Rattle.feed_lists.proofs.Common.{◌≡◌, ◌<◌, All, length, None, slice_index_or, first_below, texts, list_below, bad_trip, trip_at, trip_or_none}
use Rattle.feed_lists.proofs.trips.read_of_trips.Given as goal

abbrev pub invariant-loop-i : goal.invariant-loop-i
invariant-loop-i l = record {
  services : texts l.of_trips.services.items ≡ list_below (λ i. (trip_or_none (trip_at l.routes.ids l.rows i)).service) l.i;
  types : l.of_trips.types.items ≡ list_below (λ i. slice_index_or l.routes.types.items (trip_or_none (trip_at l.routes.ids l.rows i)).route 0) l.i;
  routes : l.of_trips.routes.items ≡ list_below (λ i. (trip_or_none (trip_at l.routes.ids l.rows i)).route) l.i;
  known : All (λ route. route < length l.routes.ids) l.of_trips.routes.items;
  none : first_below (bad_trip l.routes.ids l.rows) l.i ≡ None;
}
