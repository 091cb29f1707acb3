use Rattle.graph_score.proofs.{Common.{List, map, take_all, ◌∙◌, ap, GraphLeg, departure_of, exit_of}, ExitLemmas.exits_in_order}
use Rattle.graph_score.proofs.exits.exits_of.Goals as goal

pub returns : goal.returns
returns c =
    let n = c.args.network.now in
    let legs = c.args.legs.now in
    let whole = take_all c.loop-leg.leg-index legs c.loop-leg-test.false in
    exits_in_order n legs c.loop-leg.exits.items c.in_scan_order.result.items c.requires
    (c.loop-leg.invariant ∙ ap (λ (ls : List GraphLeg). map (λ leg. departure_of n (exit_of leg)) ls) whole) c.in_scan_order.ensures.permutation c.in_scan_order.ensures.rising
