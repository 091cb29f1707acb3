use Rattle.connections.proofs.Common.{◌≡◌, [], slice_index_or, list_below, number_in}
use Rattle.connections.proofs.trip_days.numbers_of.Given as goal

abbrev pub invariant-loop-trip : goal.invariant-loop-trip
invariant-loop-trip l = l.numbers.items ≡ list_below (λ trip. number_in (slice_index_or l.feed.services trip []) l.services.ids) l.trip
