-- The rows of routes.
use Rattle.feed_lists.proofs.Common.{◌≡◌, ℕ, ◌<◌, List, Some, None, sym, ap, RouteId, first_below, name_in, row_count, field, none-each, first-zero, first-next, list_below-zero, list_below-next}
use Rattle.feed_lists.proofs.Common.{route_columns, route_in, route_at, bad_route, name_is, result_err-require}
use Rattle.feed_lists.specs.declared.routes.RouteColumns.{RouteColumns}

-- the row by the indexes of the columns
pub route_is : (t : List (List (List ℕ))) (c : RouteColumns) (i : ℕ) → c ≡ route_columns t → route_at t i ≡ route_in t c i
unfolding route_at
route_is t c i e = ap (λ k. route_in t k i) (sym e)

-- the start and the step of a loop over the rows
pub ruleset route_steps = (route_is, first-zero, first-next, list_below-zero, list_below-next)

-- each route has a name
pub routes_named : (t : List (List (List ℕ))) → first_below (bad_route t) (row_count t) ≡ None → (i : ℕ) → i < row_count t
    → name_in (field t RouteId i) ≡ Some (field t RouteId i)
unfolding route_at
routes_named t none i inside =
    let w = result_err-require _ _ _ (none-each (bad_route t) (row_count t) none i inside) in name_is (field t RouteId i) w.0 w.1
