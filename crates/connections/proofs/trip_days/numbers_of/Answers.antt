use Rattle.connections.proofs.Common.{◌≡◌, ◌∙◌, sym, ap, [], List, ℕ, slice_index_or, get_or_from_slice_get, list_below, list_below-next, number_in, arith}
use Rattle.connections.proofs.trip_days.numbers_of.Goals as goal

pub loop-trip-preserved : goal.loop-trip-preserved
loop-trip-preserved c =
    list_below-next (λ trip. number_in (slice_index_or c.args.feed.now.services trip []) c.args.services.now.ids) c.loop-trip.trip _ _ _ c.loop-trip.invariant c.in_ok-push.ensures.items
    (c.number.ensures.number ∙ ap (number_in _) (c.in_ok-index.ensures ∙ c.services.ensures)
    ∙ ap (λ (text : List ℕ). number_in text c.args.services.now.ids) (sym (get_or_from_slice_get _ c.loop-trip.trip _ [] c.service_of.ensures)))

pub returns : goal.returns
returns c =
    let all : c.loop-trip.trip ≡ c.trip_count-trip-end.result = omega arith in
    c.loop-trip.invariant ∙ ap (list_below _) (all ∙ c.trip_count-trip-end.ensures.count)
