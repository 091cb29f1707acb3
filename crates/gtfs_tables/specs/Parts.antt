-- What is read of the tables of a feed: the stops, routes and trips, and when the trips run.
use Rattle.std.specs.{Prelude.{◌≡◌, ℕ, ◌<◌, ◌≤◌, List, [], slice_index_or, length, Result, Ok}, List.Sorted.IsNonDecreasing}
use Rattle.plan_model.specs.NameLists.{texts}
use Rattle.csv_rows.specs.declared.feed_tables.{Table.{Table, TheVariants.{Stops, Routes, Trips, StopTimes, Frequencies}}, FeedFault.FeedFault}
use Rattle.table_files.specs.{declared.loading.Loaded.Loaded, Loading.{Records, IsOfSomeTable}}
use Rattle.gtfs_tables.specs.{declared.{lists.FeedLists.FeedLists, times.TripTimes.TripTimes}, Feeds.FeedParts}
use Rattle.feed_lists.specs.declared.stops.Stops.{Stops as StopLists}
use Rattle.feed_lists.specs.Lists.{HasStops, HasRoutes, HasTrips, AreSoundStops, AreSoundRoutes, AreSoundTrips, stops_from, routes_from, trips_from}
use Rattle.stop_times.specs.{StopTimeBounds.most_stop_times, Timetables.{stop_times_from, AreVisits}, StopTimes.{TripsAndStops, named_by, stop_times_fault}}
use Rattle.trip_frequencies.specs.{FrequencyBounds.most_frequencies, Frequencies.{frequencies_from, AreFrequencies, fault_of_frequencies}}
use Rattle.trip_frequencies.specs.Repeats.{all_repeats_in}

-- the parts of a feed
abbrev pub parts_by : FeedLists → TripTimes → FeedParts
parts_by l t = record {
  stop_ids = l.stops.ids;
  places = l.stops.places.items;
  trip_ids = l.trips.ids;
  services = texts l.trips.of_trips.services.items;
  route_types = l.trips.of_trips.types.items;
  route_ids = l.routes.ids;
  routes = l.trips.of_trips.routes.items;
  stop_times = t.visits;
  frequencies = all_repeats_in t.repeats.trips.items t.repeats.rows.items (length l.trips.ids);
}

-- what the rows of stop times name, where these are the trips and the stops
abbrev pub named_with : (trips : List (List ℕ)) → StopLists → TripsAndStops
named_with trips stops = named_by trips stops.ids stops.places.items

-- the same of the stop times and of the frequencies
abbrev pub HasVisits : Result Records FeedFault → FeedLists → TripTimes → Type 0
HasVisits read l t = AreVisits (named_with l.trips.ids l.stops) read t.visits

abbrev pub HasRepeats : Result Loaded FeedFault → FeedLists → TripTimes → Type 0
HasRepeats read l t =
    AreFrequencies l.trips.ids read (all_repeats_in t.repeats.trips.items t.repeats.rows.items (length l.trips.ids))

-- these are the stops, the routes and the trips of the tables that are loaded
pub record AreLists (load : Table → Result Loaded FeedFault) (l : FeedLists) : Type 0 where
  pub stops : HasStops (stops_from (load Stops)) l.stops
  pub routes : HasRoutes (routes_from (load Routes)) l.routes
  pub trips : HasTrips l.routes (trips_from (load Trips) l.routes.ids) l.trips

-- and the trips run by these
pub record AreTripTimes (load : Table → Result Loaded FeedFault) (l : FeedLists) (t : TripTimes) : Type 0 where
  pub visits : HasVisits (stop_times_from (load StopTimes) (named_with l.trips.ids l.stops)) l t
  pub repeats : HasRepeats (frequencies_from (load Frequencies) l.trips.ids) l t

-- whatever the files say: the lists are those of tables with no fault
pub record AreSoundLists (l : FeedLists) : Type 0 where
  pub stops : AreSoundStops l.stops
  pub routes : AreSoundRoutes l.routes
  pub trips : AreSoundTrips l.routes l.trips

-- each trip has its rows, and the rows of frequencies are in the order of their trips
pub record AreSoundTimes (l : FeedLists) (t : TripTimes) : Type 0 where
  pub visits : IsOfSomeTable (stop_times_fault (named_with l.trips.ids l.stops)) (λ r. HasVisits (Ok r) l t)
  pub repeats : IsOfSomeTable (fault_of_frequencies l.trips.ids) (λ r. HasRepeats (Ok r) l t)
  pub size : length t.visits ≡ length l.trips.ids
  pub ordered : IsNonDecreasing t.repeats.trips.items
  pub paired : length t.repeats.rows.items ≡ length t.repeats.trips.items
  pub few_rows : (trip : ℕ) → trip < length l.trips.ids → length (slice_index_or t.visits trip []) ≤ most_stop_times
  pub few_frequencies : length t.repeats.rows.items ≤ most_frequencies
