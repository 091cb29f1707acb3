use Rattle.feed_lists.proofs.Common.{◌≡◌, None, map, first_below, list_below, bad_stop, parent_of}
use Rattle.feed_lists.proofs.stops.read_parents.Given as goal

abbrev pub invariant-loop-i : goal.invariant-loop-i
invariant-loop-i l = record {
  parents : map (λ p. p.now) l.parents.items ≡ list_below (parent_of l.rows) l.i;
  none : first_below (bad_stop l.rows) l.i ≡ None;
}
