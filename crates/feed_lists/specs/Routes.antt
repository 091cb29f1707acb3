-- The routes of a feed: their ids and types.
use Rattle.std.specs.{Prelude.{ℕ, ◌+◌, List, [], ◌∷◌, Option, Result, Ok}, Option.option_or, Result.result_err}
use Rattle.plan_model.specs.Results.{require, value_or}
use Rattle.clock_text.specs.Digits.{whole_of}
use Rattle.csv_rows.specs.declared.{columns.Column.TheVariants.{RouteId, RouteType}, feed_tables.{Table.TheVariants.Routes, FeedFault.FeedFault}}
use Rattle.csv_rows.specs.{declared.feed_tables.FeedFault.TheVariants.BadField, Lists.{first_below, list_below}, Ids.name_in, Tables.{row_count, index_of}}
use Rattle.csv_rows.specs.{Tables.{field_at, field}, RowFaults.{first_missing, repeated_id}}
use Rattle.feed_lists.specs.declared.routes.RouteColumns.{RouteColumns}

-- a route by its id and its type
pub record Route : Type 0 where
  pub id : List ℕ
  pub kind : ℕ

-- the route of these fields, or the first that is not of its form
abbrev pub route_from : ℕ → (id kind : List ℕ) → Result Route FeedFault
route_from line id kind =
    require (name_in id) (BadField Routes line RouteId) (λ id'.
    require (whole_of 65534 kind) (BadField Routes line RouteType) (λ kind'.
    Ok (record { id = id'; kind = kind' })))

-- the indexes of the columns
abbrev pub route_columns : List (List (List ℕ)) → RouteColumns
route_columns t = record { id = index_of RouteId t; kind = index_of RouteType t }

-- the route of row i
abbrev pub route_in : List (List (List ℕ)) → RouteColumns → ℕ → Result Route FeedFault
route_in t c i = route_from (i + 2) (field_at t c.id i) (field_at t c.kind i)

unfoldable pub route_at : List (List (List ℕ)) → ℕ → Result Route FeedFault
route_at t i = route_in t (route_columns t) i

-- the first field of row i that is not of its form
abbrev pub bad_route : List (List (List ℕ)) → ℕ → Option FeedFault
bad_route t i = result_err (route_at t i)

-- the route of a row whose fields are of their forms
abbrev pub route_or_none : Result Route FeedFault → Route
route_or_none r = value_or (record { id = []; kind = 0 }) r

-- the ids and the types of the routes
abbrev pub route_ids : List (List (List ℕ)) → List (List ℕ)
route_ids t = list_below (field t RouteId) (row_count t)

abbrev pub route_types : List (List (List ℕ)) → List ℕ
route_types t = list_below (λ i. (route_or_none (route_at t i)).kind) (row_count t)

-- the first fault of the routes
unfoldable pub routes_fault : List (List (List ℕ)) → Option FeedFault
routes_fault t =
    option_or (first_missing Routes t (RouteId ∷ RouteType ∷ []))
    (option_or (first_below (bad_route t) (row_count t))
    (first_below (repeated_id Routes (field t RouteId)) (row_count t)))
