use Rattle.connections.proofs.Common.{sym, subst, ◌∙◌, [], ap, take, List, ℕ, Contains, ◌++◌, ◌∷◌, take_more, got}
use Rattle.text_index.proofs.KeyLemmas.{new_after_those_before}
use Rattle.connections.proofs.names.place_names.Goals as goal

pub push_place-requires-clause-absent : goal.push_place-requires-clause-absent
push_place-requires-clause-absent c =
    let ids = c.args.trips.now.feed.now.stop_ids in
    let w = got ids c.loop-stop.stop c.stop_id.result.now [] c.stop_id.ensures in
    subst (λ (xs : List (List ℕ)). ¬ Contains xs c.stop_id.result.now) (sym c.loop-stop.invariant.0)
    (subst (λ (x : List ℕ). ¬ Contains (take c.loop-stop.stop ids) x) w.1 (new_after_those_before ids c.loop-stop.stop c.args.trips.now.stop_ids.names.distinct w.0))

pub loop-stop-preserved : goal.loop-stop-preserved
loop-stop-preserved c =
    let ids = c.args.trips.now.feed.now.stop_ids in
    let w = got ids c.loop-stop.stop c.stop_id.result.now [] c.stop_id.ensures in (
      c.in_ok-push_place.ensures.ok ∙ ap (λ xs. xs ++ c.stop_id.result.now ∷ []) c.loop-stop.invariant.0
          ∙ ap (λ (x : List ℕ). take c.loop-stop.stop ids ++ x ∷ []) (sym w.1) ∙ sym (take_more ids c.loop-stop.stop [] w.0),
      c.push_place.ensures.runs ∙ c.loop-stop.invariant.1,
    )
