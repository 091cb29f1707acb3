-- The feed of some tables has the trips of that of fewer rows.
use Rattle.std.proofs.Common.{◌≡◌, ℕ, ◌<◌, List, [], length, slice_index, slice_index_or, None, sym, ap, ap₂, ◌∙◌, subst, arith}
use Rattle.plan_model.specs.NameLists.{AreDistinct}
use Rattle.csv_rows.specs.{declared.{columns.Column.TheVariants.TripId, feed_tables.Table.TheVariants.Trips}, Lists.first_below, RowFaults.repeated_id, Tables.{row_count, field}}
use Rattle.csv_rows.proofs.{IdLemmas.ids_differ, FirstLemmas.none-both, ListLemmas.{length-list_below, get-list_below}}
use Rattle.table_files.specs.Loading.{Records, loaded_rows}
use Rattle.feed_lists.specs.{Routes.route_ids, Stops.stop_ids, Trips.{Trip, trip_or_none, trip_ids}}
unfoldable use Rattle.feed_lists.specs.Trips.{trip_at, trips_fault}
use Rattle.trip_frequencies.specs.Frequencies.{repeats_of, frequency_rows}
use Rattle.stop_times.specs.{StopTimes.timed_rows, Visits.AreStopTimes}
use Rattle.gtfs_tables.specs.{Feeds.{FeedParts, IsSoundFeed, named_in}, Timed.rows_of}
use Rattle.service_days.specs.Services.{ServiceParts}
use Rattle.connections.specs.{TripRuns.frequencies_of, FeedNetworks.route_of}
use Rattle.window_laws.specs.{MoreFiles.{IsSameRow, AreAmongTables, RunNoLess}, MoreTrips.{RepeatToo, HasTrips}}
use Rattle.window_laws.proofs.{Rows.{both, same_field}, StopTimes.same_visits, Repeats.{repeats_too, read_of}}

-- no trip comes twice
once_each : (routes : List (List ℕ)) (t : Records) → trips_fault routes t ≡ None → first_below (repeated_id Trips (field t TripId)) (row_count t) ≡ None
unfolding trips_fault
once_each routes t none = (none-both _ _ (none-both _ _ none).1).1

distinct_trips : (routes : List (List ℕ)) (t : Records) → trips_fault routes t ≡ None → AreDistinct (trip_ids t)
distinct_trips routes t none i j less inside same =
    let within : j < row_count t = omega (arith, inside, length-list_below (field t TripId) (row_count t)) in
    ids_differ Trips (field t TripId) (row_count t) (once_each routes t none) i j less within
    (sym (get-list_below (field t TripId) (row_count t) i [] (omega (arith, less, within))) ∙ same ∙ get-list_below (field t TripId) (row_count t) j [] within)

-- the same row is read alike
same_trip : (routes : List (List ℕ)) (t u : Records) (i j : ℕ) → IsSameRow t u i j → trip_or_none (trip_at routes u j) ≡ trip_or_none (trip_at routes t i)
unfolding trip_at
same_trip routes t u i j same = grind (arith, both, same_field)

module _ (less more : FeedParts) (a : IsSoundFeed less) (b : IsSoundFeed more) (among : AreAmongTables a.tables b.tables) where
  routes_same : route_ids b.tables.routes ≡ route_ids a.tables.routes
  routes_same = ap route_ids among.routes

  module _ (i j : ℕ) (same : IsSameRow a.tables.trips b.tables.trips i j) where
    abbrev ours : Trip
    ours = trip_or_none (trip_at (route_ids a.tables.routes) a.tables.trips i)

    abbrev theirs : Trip
    theirs = trip_or_none (trip_at (route_ids b.tables.routes) b.tables.trips j)

    one_trip : theirs ≡ ours
    one_trip = grind (arith, routes_same, same_trip)

    service_same : slice_index_or more.services j [] ≡ slice_index_or less.services i []
    service_same = grind (arith, get-list_below, one_trip)

    type_same : slice_index more.route_types j ≡ slice_index less.route_types i
    type_same = grind (arith, get-list_below, one_trip)

    number_same : slice_index more.routes j ≡ slice_index less.routes i
    number_same = grind (arith, get-list_below, one_trip)

    route_same : route_of more j ≡ route_of less i
    route_same = ap₂ (λ (ids : List (List ℕ)) (k : ℕ). slice_index_or ids k []) (b.feed.routes ∙ routes_same ∙ sym a.feed.routes) number_same

    distinct_less : AreDistinct (trip_ids a.tables.trips)
    distinct_less = distinct_trips (route_ids a.tables.routes) a.tables.trips a.trips

    distinct_more : AreDistinct (trip_ids b.tables.trips)
    distinct_more = distinct_trips (route_ids b.tables.routes) b.tables.trips b.trips

    rows_same : rows_of more j ≡ rows_of less i
    rows_same =
        let times : AreStopTimes (timed_rows (named_in b.tables.trips a.tables.stops) b.tables.stop_times) j (rows_of more j) =
        subst (λ (s : Records). AreStopTimes (timed_rows (named_in b.tables.trips s) b.tables.stop_times) j (rows_of more j)) among.stops (b.feed.times j same.there) in
        sym (same_visits a.tables.stops a.tables.trips b.tables.trips a.tables.stop_times b.tables.stop_times i j same distinct_more distinct_less among.stop_times (rows_of less i) (rows_of more j)
        (a.feed.times i same.here) times)

    repeats_same : RepeatToo (frequencies_of less i) (frequencies_of more j)
    repeats_same =
        let t = loaded_rows a.tables.frequencies in
        let u = loaded_rows b.tables.frequencies in
        let here : frequencies_of less i ≡ repeats_of (frequency_rows (trip_ids a.tables.trips) t) i =
        ap (λ xs. slice_index_or xs i []) a.feed.frequencies_of_trips ∙ get-list_below (repeats_of (frequency_rows (trip_ids a.tables.trips) t)) (row_count a.tables.trips) i [] same.here in
        let there : frequencies_of more j ≡ repeats_of (frequency_rows (trip_ids b.tables.trips) u) j =
        ap (λ xs. slice_index_or xs j []) b.feed.frequencies_of_trips ∙ get-list_below (repeats_of (frequency_rows (trip_ids b.tables.trips) u)) (row_count b.tables.trips) j [] same.there in
        rw (here, there) (repeats_too a.tables.trips b.tables.trips t u i j same distinct_more distinct_less among.frequencies
        (read_of (trip_ids a.tables.trips) a.tables.frequencies a.frequencies) (read_of (trip_ids b.tables.trips) b.tables.frequencies b.frequencies))

  size_less : length less.trip_ids ≡ row_count a.tables.trips
  size_less = ap length a.feed.trips ∙ length-list_below _ (row_count a.tables.trips)

  size_more : length more.trip_ids ≡ row_count b.tables.trips
  size_more = ap length b.feed.trips ∙ length-list_below _ (row_count b.tables.trips)

  pub trips_among : (s t : ServiceParts) → RunNoLess s t → HasTrips less s more t
  trips_among s t days trip inside =
      let (other, same) = among.trips trip (omega (arith, inside, size_less)) in grind (arith, size_more, rows_same, repeats_same, type_same, route_same, service_same)

  pub places_same : length more.stop_ids ≡ length less.stop_ids
  places_same = ap length (b.feed.stops ∙ ap stop_ids among.stops ∙ sym a.feed.stops)
