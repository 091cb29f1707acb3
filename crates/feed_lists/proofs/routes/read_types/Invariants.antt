use Rattle.feed_lists.proofs.Common.{◌≡◌, None, first_below, list_below, bad_route, route_at, route_or_none}
use Rattle.feed_lists.proofs.routes.read_types.Given as goal

abbrev pub invariant-loop-i : goal.invariant-loop-i
invariant-loop-i l = record {
  types : l.types.items ≡ list_below (λ i. (route_or_none (route_at l.rows i)).kind) l.i;
  none : first_below (bad_route l.rows) l.i ≡ None;
}
