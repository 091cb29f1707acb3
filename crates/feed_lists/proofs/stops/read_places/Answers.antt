use Rattle.feed_lists.proofs.{Common.{◌≡◌, ◌∙◌, sym, ap, arith, row_count, list_below, first_below, None, unknown_parent, place_from, stop_ids, parent_of, match_raised, fault-at, first-zero, first-next, list_below-zero, list_below-next}, StopLemmas.{listed, unknown_is, place_is_from}}
use Rattle.feed_lists.proofs.stops.read_places.Goals as goal

pub loop-i-init : goal.loop-i-init
loop-i-init c = grind (arith, list_below-zero, first-zero)

pub bounds-parents-i : goal.bounds-parents-i
bounds-parents-i c = let w = listed _ _ _ _ c.requires.parents in omega (arith, w.0)

pub returns-in_err-place-clause-reports : goal.returns-in_err-place-clause-reports
returns-in_err-place-clause-reports c =
    let w = listed _ _ _ _ c.requires.parents in
    match_raised _ _ c.from_residual-in_err-place.result c.from_residual-in_err-place.ensures
    (fault-at _ c.loop-i.i _ (omega arith) c.loop-i.invariant.none
    (unknown_is c.args.rows.now _ _ c.loop-i.i (c.in_ok-index.ensures ∙ c.texts.ensures ∙ c.requires.ids) (w.1 c.loop-i.i _ (omega (arith, w.0))))
    c.in_err-place.ensures.reports)

pub loop-i-preserved : goal.loop-i-preserved
loop-i-preserved c =
    let t = c.args.rows.now in
    let i = c.loop-i.i in
    let w = listed _ _ _ _ c.requires.parents in
    let parent = w.1 i _ (omega (arith, w.0)) in
    let ids = c.in_ok-index.ensures ∙ c.texts.ensures ∙ c.requires.ids in
    record {
      places = list_below-next (λ k. place_from (stop_ids t) (parent_of t k) k) i c.loop-i.places.items c.push.new.self.items c.in_ok-place.place
          c.loop-i.invariant.places c.in_ok-push.ensures.items (place_is_from t _ _ i c.in_ok-place.place ids parent c.in_ok-place.ensures.place);
      none = first-next (unknown_parent t) i None c.loop-i.invariant.none (unknown_is t _ _ i ids parent ∙ c.in_ok-place.ensures.reports);
    }

pub returns : goal.returns
returns c =
    let all : c.loop-i.i ≡ row_count c.args.rows.now = omega (arith, c.count-i-end.ensures.count) in
    record { places = c.loop-i.invariant.places ∙ ap (list_below _) all; reports = sym (ap (first_below _) all) ∙ c.loop-i.invariant.none }
