use Rattle.delay_table.proofs.{Common.{◌∙◌, ap, sym, subst, IfSome, length, ℕ, List, ◌<◌, AreDistinct, numbered_route, routes_of}, RouteFacts.routes-distinct, NumberedFacts.index-is}
use Rattle.delay_table.proofs.other_groups.OtherGroups.index_of.Goals as goal

pub returns-clause-index : goal.returns-clause-index
returns-clause-index c =
    let s = c.self.inside in
    let routes = c.self.invariant.named ∙ ap routes_of c.self.view_is in
    let P : List (List ℕ) → Type 0 = λ xs. IfSome c.args.route (λ n. n < length xs) in
    index-is s.routes s.groups (subst AreDistinct (sym routes) (routes-distinct c.args.self.now)) c.self.invariant.numbers c.args.self.now
    c.args.class c.args.route c.args.hour (numbered_route (routes_of c.args.self.now) c.args.route) c.self.view_is
    (subst P (sym routes) c.requires) (ap (λ xs. numbered_route xs c.args.route) routes) c.index_of.result c.index_of.ensures.index c.index_of.ensures.found
