-- What is read of the tables of stops, routes and trips.
use Rattle.std.specs.Prelude.{◌≡◌, ℕ, ◌<◌, ◌≤◌, List, length, All, Result, Ok, Err}
use Rattle.plan_model.specs.{NameLists.texts, Results.{and_then, unless}}
use Rattle.csv_rows.specs.declared.{columns.Column.TheVariants.{StopId, RouteId}, feed_tables.Table.TheVariants.{Stops as StopsTable, Routes as RoutesTable}}
use Rattle.csv_rows.specs.declared.feed_tables.{Table.TheVariants.Trips as TripsTable, FeedFault.FeedFault}
use Rattle.table_files.specs.{declared.loading.Loaded.Loaded, Loading.{Records, required, IsOfSomeTable}}
use Rattle.feed_lists.specs.{declared.{routes.Routes.Routes, stops.Stops.Stops, trips.Trips.Trips}, ListBounds.{most_stops, most_trips}, Stops.stop_ids}
use Rattle.feed_lists.specs.{Stops.{stop_places, stops_fault}, Routes.{route_ids, route_types, routes_fault}, Trips.{trip_ids, trip_routes, trip_services}}
use Rattle.feed_lists.specs.Trips.{trip_types, trips_fault}

-- each table by what was loaded of it
abbrev pub stops_from : Result Loaded FeedFault → Result Records FeedFault
stops_from loaded = and_then (required StopsTable StopId loaded) (λ t. unless (stops_fault t) t)

abbrev pub routes_from : Result Loaded FeedFault → Result Records FeedFault
routes_from loaded = and_then (required RoutesTable RouteId loaded) (λ t. unless (routes_fault t) t)

abbrev pub trips_from : Result Loaded FeedFault → List (List ℕ) → Result Records FeedFault
trips_from loaded routes = and_then (required TripsTable RouteId loaded) (λ t. unless (trips_fault routes t) t)

-- what was read of each table
abbrev pub AreStops : Result Records FeedFault → List (List ℕ) → List ℕ → Type 0
AreStops (Ok t) ids places = (ids ≡ stop_ids t) × (places ≡ stop_places t)
AreStops (Err fault) ids places = ⊥

abbrev pub AreRoutes : Result Records FeedFault → List (List ℕ) → List ℕ → Type 0
AreRoutes (Ok t) ids types = (ids ≡ route_ids t) × (types ≡ route_types t)
AreRoutes (Err fault) ids types = ⊥

abbrev pub AreTrips : (routes : List (List ℕ)) (types : List ℕ) → Result Records FeedFault → (ids services : List (List ℕ)) (types_of routes_of : List ℕ) → Type 0
AreTrips routes types (Ok t) ids services types_of routes_of =
    (ids ≡ trip_ids t) × (services ≡ trip_services routes t) × (types_of ≡ trip_types routes types t) × (routes_of ≡ trip_routes routes t)
AreTrips routes types (Err fault) ids services types_of routes_of = ⊥

-- these are the stops that were read
abbrev pub HasStops : Result Records FeedFault → Stops → Type 0
HasStops read s = AreStops read s.ids s.places.items

-- the routes
abbrev pub HasRoutes : Result Records FeedFault → Routes → Type 0
HasRoutes read r = AreRoutes read r.ids r.types.items

-- and the trips, which are of these routes
abbrev pub HasTrips : Routes → Result Records FeedFault → Trips → Type 0
HasTrips r read t =
    AreTrips r.ids r.types.items read t.ids (texts t.of_trips.services.items) t.of_trips.types.items t.of_trips.routes.items

-- the stops are those of a table with no fault, and each has a place
pub record AreSoundStops (s : Stops) : Type 0 where
  pub table : IsOfSomeTable stops_fault (λ t. HasStops (Ok t) s)
  pub places : length s.places.items ≡ length s.ids
  pub few : length s.ids ≤ most_stops

-- so are the routes, and each has a type
pub record AreSoundRoutes (r : Routes) : Type 0 where
  pub table : IsOfSomeTable routes_fault (λ t. HasRoutes (Ok t) r)
  pub types : length r.types.items ≡ length r.ids

-- and the trips, and each has a service, a type and one of the routes
pub record AreSoundTrips (r : Routes) (t : Trips) : Type 0 where
  pub table : IsOfSomeTable (trips_fault r.ids) (λ x. HasTrips r (Ok x) t)
  pub services : length t.of_trips.services.items ≡ length t.ids
  pub types : length t.of_trips.types.items ≡ length t.ids
  pub routes : length t.of_trips.routes.items ≡ length t.ids
  pub known : All (λ route. route < length r.ids) t.of_trips.routes.items
  pub few : length t.ids ≤ most_trips
