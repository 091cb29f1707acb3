use Rattle.connections.proofs.Common.{◌≡◌, ◌∙◌, sym, ap, [], List, ℕ, slice_index_or, get_or_from_slice_get, list_below, list_below-next, length, number_in, route_number, arith}
use Rattle.connections.proofs.window_connections.route_numbers.Goals as goal

pub loop-route-preserved : goal.loop-route-preserved
loop-route-preserved c =
    let name = ap (λ (xs : List (List ℕ)). slice_index_or xs c.loop-route.route []) (sym c.routes-routes.ensures)
    ∙ get_or_from_slice_get c.routes-routes.result.now c.loop-route.route c.get.result.now [] c.get.ensures.text in
    list_below-next (λ k. route_number c.args.delays.now (slice_index_or c.args.feed.now.route_ids k [])) c.loop-route.route _ _ _ c.loop-route.invariant c.in_ok-push.ensures.items
    (c.number.ensures.number ∙ ap (number_in c.get.result.now) (c.in_ok-index.ensures ∙ c.routes.ensures) ∙ ap (route_number c.args.delays.now) (sym name))

pub returns : goal.returns
returns c =
    let all : c.loop-route.route ≡ c.len-route-end.result = omega arith in
    c.loop-route.invariant ∙ ap (list_below _) (all ∙ c.len-route-end.ensures.count ∙ ap length c.routes-routes.ensures)
