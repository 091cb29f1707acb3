-- The class of a connection by the number of its route among those that the delays name.
use Rattle.connections.proofs.Common.{routes_of, route_of, arith, common_steps, ◌≡◌, ℕ, ◌<◌, List, length, Option, Some, None, IfSome, IfNone, Contains, sym, number_in, number-here}
use Rattle.connections.proofs.Common.{number-contained, DelayLists, class_for, numbered_route}
use Rattle.connections.proofs.window_connections.class_of.Goals as goal

-- a route that has a number is one of them
pub route_inside : (route : List ℕ) (routes : List (List ℕ)) (o : Option ℕ) → o ≡ number_in route routes → IfSome o (λ n. n < length routes)
route_inside route routes None e = tt
route_inside route routes (Some n) e = (number-here route routes n (sym e)).0

-- the class by the number is that by the route
pub class_is : (d : DelayLists) (class : Option ℕ) (route : List ℕ) (arr : ℕ) (o : Option ℕ) (found : ℕ) → o ≡ number_in route (routes_of d.others)
    → found ≡ class_for d class (numbered_route (routes_of d.others) o) arr
    → IfNone o ((id : List ℕ) → ¬ Contains (routes_of d.others) id → found ≡ class_for d class (Some id) arr)
    → found ≡ class_for d class (Some route) arr
class_is d class route arr o found e is other = grind (arith, number-contained, common_steps, number-here)

pub class_at-requires : goal.class_at-requires
class_at-requires c = route_inside (route_of c.args.run.now.feed.now c.args.run.now.trip) (routes_of c.args.run.now.delays.now.others) c.args.run.now.route c.args.run.now.routed

pub returns : goal.returns
returns c = grind (arith, class_is)
