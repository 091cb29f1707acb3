-- The feed of a folder, or the first of its faults: the tables come in their order, and each is whole before the next is looked at.
use Rattle.std.specs.Prelude.{◌≡◌, ℕ, ◌<◌, List, [], length, slice_index_or, Option, None, Result, Ok, Err, IfSome}
use Rattle.plan_model.specs.Results.{and_then}
use Rattle.file_ports.specs.Ports.{FileMap}
use Rattle.csv_rows.specs.declared.feed_tables.Table.{Table, TheVariants.{Stops, Routes, Trips, StopTimes, Frequencies, Calendar, CalendarDates, Transfers}}
use Rattle.csv_rows.specs.{declared.{feed_tables.FeedFault.FeedFault, limits.Limits.Limits}, FeedTables.{table_of_fault, unread_table}, Tables.row_count}
use Rattle.table_files.specs.{declared.loading.Loaded.Loaded, Loading.{load_in, loaded_rows, Records}}
use Rattle.trip_frequencies.specs.{declared.frequencies.FrequencyRow.FrequencyRow, Frequencies.{frequency_rows, fault_of_frequencies, frequencies_from}}
use Rattle.trip_frequencies.specs.Frequencies.{all_repeats_of}
use Rattle.stop_times.specs.{declared.rows.StopRow.StopRow, Visits.AreStopTimes, Timetables.stop_times_from}
use Rattle.stop_times.specs.StopTimes.{TripsAndStops, named_by, timed_rows, stop_times_fault}
use Rattle.feed_lists.specs.{Lists.{stops_from, routes_from, trips_from}, Stops.{stop_ids, stop_places, stops_fault}, Routes.{route_ids, route_types}}
use Rattle.feed_lists.specs.{Routes.routes_fault, Trips.{trip_ids, trip_routes, trip_services, trip_types, trips_fault}}

-- the tables of a feed
pub record Tables : Type 0 where
  pub stops : Records
  pub routes : Records
  pub trips : Records
  pub stop_times : Records
  pub frequencies : Loaded

-- what the rows of stop times name, where these are the tables of the trips and of the stops
abbrev pub named_in : (trips stops : Records) → TripsAndStops
named_in trips stops = named_by (trip_ids trips) (stop_ids stops) (stop_places stops)

-- the tables one after the other
abbrev pub tables_by : (stops routes : Result Records FeedFault) (trips : List (List ℕ) → Result Records FeedFault)
    (stop_times : TripsAndStops → Result Records FeedFault) (frequencies : List (List ℕ) → Result Loaded FeedFault) → Result Tables FeedFault
tables_by stops routes trips stop_times frequencies =
    and_then stops (λ s.
    and_then routes (λ r.
    and_then (trips (route_ids r)) (λ t.
    and_then (stop_times (named_in t s)) (λ x.
    and_then (frequencies (trip_ids t)) (λ q.
    Ok (record { stops = s; routes = r; trips = t; stop_times = x; frequencies = q }))))))

abbrev pub tables_from : (Table → Result Loaded FeedFault) → Result Tables FeedFault
tables_from load =
    tables_by (stops_from (load Stops)) (routes_from (load Routes)) (trips_from (load Trips)) (stop_times_from (load StopTimes)) (frequencies_from (load Frequencies))

-- the tables of the folder, or the first of all faults
unfoldable pub tables_in : FileMap → List ℕ → Limits → Option Table → Result Tables FeedFault
tables_in files folder limits unread = tables_from (load_in files folder limits unread)

-- the first fault of the tables is this one, if no table but that of the fault is unread
abbrev pub IsFirstOfTables : List ℕ → Limits → FileMap → FeedFault → Type 0
IsFirstOfTables folder limits files fault = tables_in files folder limits (unread_table fault) ≡ Err fault

-- a feed: the ids and places of its stops, the ids of its routes, the ids, services and route types of its trips and the number of
-- the route of each, and the kept rows and the rows of frequencies of each trip
pub record FeedParts : Type 0 where
  pub stop_ids : List (List ℕ)
  pub places : List ℕ
  pub trip_ids : List (List ℕ)
  pub services : List (List ℕ)
  pub route_types : List ℕ
  pub route_ids : List (List ℕ)
  pub routes : List ℕ
  pub stop_times : List (List StopRow)
  pub frequencies : List (List FrequencyRow)

-- the feed of these tables
pub record IsFeed (t : Tables) (f : FeedParts) : Type 0 where
  pub stops : f.stop_ids ≡ stop_ids t.stops
  pub places_of_stops : f.places ≡ stop_places t.stops
  pub trips : f.trip_ids ≡ trip_ids t.trips
  pub services_of_trips : f.services ≡ trip_services (route_ids t.routes) t.trips
  pub types_of_trips : f.route_types ≡ trip_types (route_ids t.routes) (route_types t.routes) t.trips
  pub routes : f.route_ids ≡ route_ids t.routes
  pub routes_of_trips : f.routes ≡ trip_routes (route_ids t.routes) t.trips
  pub size : length f.stop_times ≡ row_count t.trips
  pub times : (trip : ℕ) → trip < row_count t.trips → AreStopTimes (timed_rows (named_in t.trips t.stops) t.stop_times) trip (slice_index_or f.stop_times trip [])
  pub frequencies_of_trips : f.frequencies ≡ all_repeats_of (frequency_rows (trip_ids t.trips) (loaded_rows t.frequencies)) (row_count t.trips)

-- there is a feed, and this is it
abbrev pub IsFeedOf : Result Tables FeedFault → FeedParts → Type 0
IsFeedOf (Ok t) f = IsFeed t f
IsFeedOf (Err fault) f = ⊥

-- whatever the files say, a feed is that of some tables with no fault
pub record IsSoundFeed (f : FeedParts) : Type 0 where
  pub tables : Tables
  pub stops : stops_fault tables.stops ≡ None
  pub routes : routes_fault tables.routes ≡ None
  pub trips : trips_fault (route_ids tables.routes) tables.trips ≡ None
  pub stop_times : stop_times_fault (named_in tables.trips tables.stops) tables.stop_times ≡ None
  pub frequencies : fault_of_frequencies (trip_ids tables.trips) tables.frequencies ≡ None
  pub feed : IsFeed tables f

-- the tables that make a feed
abbrev pub IsFeedTable : Table → Type 0
IsFeedTable Stops = Unit {0}
IsFeedTable Routes = Unit {0}
IsFeedTable Trips = Unit {0}
IsFeedTable StopTimes = Unit {0}
IsFeedTable Frequencies = Unit {0}
IsFeedTable Calendar = ⊥
IsFeedTable CalendarDates = ⊥
IsFeedTable Transfers = ⊥

-- it is in one of these, or there was no memory
abbrev pub IsFeedTableFault : FeedFault → Type 0
IsFeedTableFault fault = IfSome (table_of_fault fault) IsFeedTable
