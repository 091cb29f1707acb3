use Rattle.plan_model.proofs.{Common.{arith, ap, ◌∙◌, NetworkModel}, Searches.at_index, Boarding.limit_of-found}
use Rattle.plan_model.proofs.network.Network.limit.Goals as goal

pub way-requires-clause-to : goal.way-requires-clause-to
way-requires-clause-to c =
    let here = at_index c.args.self.now c.as_slice.result.now (c.as_slice.ensures ∙ ap (λ (p : NetworkModel). p.connections) c.self.view_is) c.args.leg.enter.0 in
    grind arith

pub returns-in-None : goal.returns-in-None
returns-in-None c = grind (arith, at_index, limit_of-found)

pub returns-in-Some : goal.returns-in-Some
returns-in-Some c = grind (arith, at_index, limit_of-found)
