use Rattle.departure_table.proofs.Common.{◌≡◌, map, range_with_len, links_into}
use Rattle.departure_table.proofs.gates.links_for.Given as goal

abbrev pub invariant-loop-place : goal.invariant-loop-place
invariant-loop-place l = l.links.items ≡ map (links_into l.network) (range_with_len 0 l.place)
