use Rattle.connections.proofs.Common.{◌≡◌, [], slice_index_or, list_below, route_number}
use Rattle.connections.proofs.window_connections.route_numbers.Given as goal

abbrev pub invariant-loop-route : goal.invariant-loop-route
invariant-loop-route l = l.numbers.items ≡ list_below (λ k. route_number l.delays (slice_index_or l.feed.route_ids k [])) l.route
