use Rattle.feed_lists.proofs.Common.{List, ℕ, ◌<◌, ◌≡◌, None, list_below, first_below, row_count, sym, subst, ap, ◌∙◌, arith, length, slice_index_or, All, result_err, match_raised, fault-at, first-zero, first-next, texts, bad_trip}
use Rattle.feed_lists.proofs.{Common.{trip_at, trip_in, trip_or_none, list_below-zero, list_below-next}, TripLemmas.trip_is}
use Rattle.std.proofs.lemmas.List.Elements.{All-push, All-nil}
use Rattle.feed_lists.proofs.trips.read_of_trips.Goals as goal

pub loop-i-init : goal.loop-i-init
loop-i-init c = grind (arith, list_below-zero, All-nil, first-zero)

pub returns-in_err-trip-clause-reports : goal.returns-in_err-trip-clause-reports
returns-in_err-trip-clause-reports c = match_raised _ _ c.from_residual-in_err-trip.result c.from_residual-in_err-trip.ensures
    (fault-at _ c.loop-i.i _ (omega arith) c.loop-i.invariant.none
    (ap result_err (trip_is c.args.routes.now.ids c.args.rows.now _ c.loop-i.i c.trip_columns-columns.ensures
    ∙ ap (λ (ids : List (List ℕ)). trip_in ids c.args.rows.now c.trip_columns-columns.result c.loop-i.i) (sym (c.in_ok-index.ensures ∙ c.texts.ensures))))
    c.in_err-trip.ensures.reports)

pub loop-i-preserved : goal.loop-i-preserved
loop-i-preserved c =
    let t = c.args.rows.now in
    let ids = c.args.routes.now.ids in
    let types = c.args.routes.now.types.items in
    let trip = c.in_ok-trip.trip in
    let before = c.loop-i.of_trips in
    let new = c.add_trip.new.of_trips in
    let here = trip_is ids t _ c.loop-i.i c.trip_columns-columns.ensures
    ∙ ap (λ (ids : List (List ℕ)). trip_in ids t c.trip_columns-columns.result c.loop-i.i) (sym (c.in_ok-index.ensures ∙ c.texts.ensures))
    ∙ c.in_ok-trip.ensures.trip in
    let known = subst (λ (ids : List (List ℕ)). trip.route < length ids) (c.in_ok-index.ensures ∙ c.texts.ensures) c.in_ok-trip.ensures.route in
    record {
      services = list_below-next (λ i. (trip_or_none (trip_at ids t i)).service) c.loop-i.i (texts before.services.items) (texts new.services.items)
          trip.service.now c.loop-i.invariant.services c.in_ok-add_trip.ensures.services (sym (ap (λ r. (trip_or_none r).service) here));
      types = list_below-next (λ i. slice_index_or types (trip_or_none (trip_at ids t i)).route 0) c.loop-i.i before.types.items new.types.items
          (slice_index_or types trip.route 0) c.loop-i.invariant.types c.in_ok-add_trip.ensures.types
          (sym (ap (λ r. slice_index_or types (trip_or_none r).route 0) here));
      routes = list_below-next (λ i. (trip_or_none (trip_at ids t i)).route) c.loop-i.i before.routes.items new.routes.items
          trip.route c.loop-i.invariant.routes c.in_ok-add_trip.ensures.routes (sym (ap (λ r. (trip_or_none r).route) here));
      known = subst (All (λ route. route < length ids)) (sym c.in_ok-add_trip.ensures.routes)
          (All-push (λ route. route < length ids) before.routes.items trip.route c.loop-i.invariant.known known);
      none = first-next (bad_trip ids t) c.loop-i.i None c.loop-i.invariant.none (ap result_err here);
    }

pub returns : goal.returns
returns c =
    let all : c.loop-i.i ≡ row_count c.args.rows.now = omega (arith, c.count-i-end.ensures.count) in
    record {
      services = c.loop-i.invariant.services ∙ ap (list_below _) all;
      types = c.loop-i.invariant.types ∙ ap (list_below _) all;
      routes = c.loop-i.invariant.routes ∙ ap (list_below _) all;
      known = c.loop-i.invariant.known;
      reports = sym (ap (first_below _) all) ∙ c.loop-i.invariant.none;
    }
