use Rattle.departure_table.proofs.{Common.{◌≡◌, length, take, places_with}, GateLists.{LedTo, own_links}}
use Rattle.departure_table.proofs.gates.extended_by.Given as goal

abbrev pub invariant-loop-k : goal.invariant-loop-k
invariant-loop-k l = record {
  len : length l.links.items ≡ places_with l.network l.sources;
  led : LedTo (own_links l.network l.sources) l.links.items (length l.network.change) (take l.k l.sources);
}
