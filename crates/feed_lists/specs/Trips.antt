-- The trips of a feed: their ids, services, routes and route types.
use Rattle.std.specs.{Prelude.{ℕ, ◌+◌, List, [], ◌∷◌, slice_index, Option, Result, Ok}, Option.option_or, Result.result_err}
use Rattle.plan_model.specs.Results.{require, value_or}
use Rattle.csv_rows.specs.declared.{columns.Column.TheVariants.{RouteId, ServiceId, TripId}, feed_tables.{Table.TheVariants.Trips, FeedFault.FeedFault}}
use Rattle.csv_rows.specs.{declared.feed_tables.FeedFault.TheVariants.{BadField, UnknownKey}, Lists.{first_below, list_below}, Ids.name_in, Tables.row_count}
use Rattle.csv_rows.specs.{Tables.{number_in, index_of, field_at, field}, RowFaults.{first_missing, repeated_id}}
use Rattle.feed_lists.specs.declared.trips.TripColumns.{TripColumns}

-- a trip by the number of its route, its service and its id
pub record Trip : Type 0 where
  pub route : ℕ
  pub service : List ℕ
  pub id : List ℕ

-- the trip of these fields, or the first that is not of its form or names no route
abbrev pub trip_from : List (List ℕ) → ℕ → (route service id : List ℕ) → Result Trip FeedFault
trip_from routes line route service id =
    require (name_in route) (BadField Trips line RouteId) (λ route'.
    require (number_in route' routes) (UnknownKey Trips line RouteId) (λ number.
    require (name_in service) (BadField Trips line ServiceId) (λ service'.
    require (name_in id) (BadField Trips line TripId) (λ id'.
    Ok (record { route = number; service = service'; id = id' })))))

-- the indexes of the columns
abbrev pub trip_columns : List (List (List ℕ)) → TripColumns
trip_columns t = record { route = index_of RouteId t; service = index_of ServiceId t; id = index_of TripId t }

-- the trip of row i, where these are the ids of the routes
abbrev pub trip_in : List (List ℕ) → List (List (List ℕ)) → TripColumns → ℕ → Result Trip FeedFault
trip_in routes t c i = trip_from routes (i + 2) (field_at t c.route i) (field_at t c.service i) (field_at t c.id i)

unfoldable pub trip_at : List (List ℕ) → List (List (List ℕ)) → ℕ → Result Trip FeedFault
trip_at routes t i = trip_in routes t (trip_columns t) i

-- the first fault of row i
abbrev pub bad_trip : List (List ℕ) → List (List (List ℕ)) → ℕ → Option FeedFault
bad_trip routes t i = result_err (trip_at routes t i)

-- the trip of a row that has no fault
abbrev pub trip_or_none : Result Trip FeedFault → Trip
trip_or_none r = value_or (record { route = 0; service = []; id = [] }) r

-- the ids, the services, the route types and the numbers of the routes of the trips, where these are the ids and the types of the
-- routes
abbrev pub trip_ids : List (List (List ℕ)) → List (List ℕ)
trip_ids t = list_below (field t TripId) (row_count t)

abbrev pub trip_services : List (List ℕ) → List (List (List ℕ)) → List (List ℕ)
trip_services routes t = list_below (λ i. (trip_or_none (trip_at routes t i)).service) (row_count t)

abbrev pub trip_types : List (List ℕ) → List ℕ → List (List (List ℕ)) → List ℕ
trip_types routes types t = list_below (λ i. slice_index types (trip_or_none (trip_at routes t i)).route) (row_count t)

abbrev pub trip_routes : List (List ℕ) → List (List (List ℕ)) → List ℕ
trip_routes routes t = list_below (λ i. (trip_or_none (trip_at routes t i)).route) (row_count t)

-- the first fault of the trips
unfoldable pub trips_fault : List (List ℕ) → List (List (List ℕ)) → Option FeedFault
trips_fault routes t =
    option_or (first_missing Trips t (RouteId ∷ ServiceId ∷ TripId ∷ []))
    (option_or (first_below (bad_trip routes t) (row_count t))
    (first_below (repeated_id Trips (field t TripId)) (row_count t)))
