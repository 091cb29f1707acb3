-- The tables of a feed, one after the other.
use Rattle.gtfs_tables.proofs.Common.{◌≡◌, ℕ, ◌==◌, false, List, None, sym, ap, ◌∙◌, subst, arith, Result, Ok, Err, and_then, Stops, Routes, Trips, StopTimes, Frequencies, FeedFault, Loaded}
use Rattle.gtfs_tables.proofs.Common.{load_in, trips_fault, fault_of_frequencies, frequencies_from, Tables, tables_by, tables_from, tables_in, IsFeed, IsFeedOf, IsSoundFeed, length-list_below}
use Rattle.gtfs_tables.proofs.Common.{and_then-err}
use Rattle.gtfs_tables.specs.{Feeds.IsFirstOfTables, declared.{lists.FeedLists.FeedLists, times.TripTimes.TripTimes}, Parts.{parts_by, named_with, HasVisits, HasRepeats, AreLists, AreTripTimes}}
use Rattle.gtfs_tables.specs.Parts.{AreSoundLists, AreSoundTimes}
use Rattle.file_ports.specs.Ports.{FileMap}
use Rattle.csv_rows.specs.{declared.{feed_tables.Table.Table, limits.Limits.Limits}, FeedTables.{rank_of, unread_table, IsFaultOf}}
use Rattle.stop_times.specs.{declared.rows.StopRow.StopRow, StopTimes.{TripsAndStops, named_by, stop_times_fault}, Timetables.{stop_times_from, AreVisits}}
use Rattle.table_files.specs.Loading.{Records}
use Rattle.table_files.proofs.LoadLemmas.{load_in-other}
use Rattle.feed_lists.specs.{Lists.{stops_from, routes_from, trips_from, HasStops, HasRoutes, HasTrips}, declared.{stops.Stops.Stops as StopLists, routes.Routes.Routes as RouteLists}}

-- what was read is the feed of its tables
is_feed : (l : FeedLists) (t : TripTimes) (s r d x : Records) (q : Loaded) → HasStops (Ok s) l.stops → HasRoutes (Ok r) l.routes → HasTrips l.routes (Ok d) l.trips
    → HasVisits (Ok x) l t → HasRepeats (Ok q) l t → IsFeed (record { stops = s; routes = r; trips = d; stop_times = x; frequencies = q }) (parts_by l t)
is_feed l t s r d x q stops routes trips v u = grind (arith, length-list_below)

abbrev TripsBy : Type 0
TripsBy = List (List ℕ) → Result Records FeedFault

abbrev TimesBy : Type 0
TimesBy = TripsAndStops → Result Records FeedFault

abbrev FrequenciesBy : Type 0
FrequenciesBy = List (List ℕ) → Result Loaded FeedFault

-- the lists were read, and the tables after them come next
record AreRead (l : FeedLists) (tables : Result Tables FeedFault) (times : Result Records FeedFault) (frequencies : Result Loaded FeedFault) : Type 0 where
  stops : Records
  routes : Records
  trips : Records
  stops_are : HasStops (Ok stops) l.stops
  routes_are : HasRoutes (Ok routes) l.routes
  trips_are : HasTrips l.routes (Ok trips) l.trips
  is : tables ≡ and_then times (λ x. and_then frequencies (λ q. Ok (record { stops = stops; routes = routes; trips = trips; stop_times = x; frequencies = q })))

-- a table that has a fault, where those before it were read
module _ (t : TripsBy) (x : TimesBy) (q : FrequenciesBy) where
  routes_stop : (s r : Result Records FeedFault) (stops : StopLists) (f : FeedFault) → HasStops s stops → r ≡ Err f → tables_by s r t x q ≡ Err f
  routes_stop s r stops f a h = grind arith

  trips_stop : (s r : Result Records FeedFault) (stops : StopLists) (routes : RouteLists) (f : FeedFault) → HasStops s stops → HasRoutes r routes → t routes.ids ≡ Err f
      → tables_by s r t x q ≡ Err f
  trips_stop s r stops routes f a b h = grind arith

  are_read : (s r d : Result Records FeedFault) (l : FeedLists) → HasStops s l.stops → HasRoutes r l.routes → t l.routes.ids ≡ d → HasTrips l.routes d l.trips
      → AreRead l (tables_by s r t x q) (x (named_with l.trips.ids l.stops)) (q l.trips.ids)
  are_read (Ok s) (Ok r) (Ok d) l a b e c = grind arith
  are_read (Ok s) (Ok r) (Err f) l a b e c = absurd c
  are_read (Ok s) (Err f) d l a b e c = absurd b
  are_read (Err f) r d l a b e c = absurd a

module _ (l : FeedLists) (tables : Result Tables FeedFault) where
  repeats_stop : (x : Result Records FeedFault) (q : Result Loaded FeedFault) (visits : List (List StopRow)) (f : FeedFault) → AreRead l tables x q
      → AreVisits (named_with l.trips.ids l.stops) x visits → q ≡ Err f → tables ≡ Err f
  repeats_stop (Ok x) q visits f w v h = grind (arith, and_then-err)
  repeats_stop (Err e) q visits f w v h = absurd v

  feed_of : (x : Result Records FeedFault) (q : Result Loaded FeedFault) (t : TripTimes) → AreRead l tables x q → HasVisits x l t → HasRepeats q l t → IsFeedOf tables (parts_by l t)
  feed_of (Ok x) (Ok q) t w v u =
      subst (λ z. IsFeedOf z (parts_by l t)) (sym w.is) (is_feed l t w.stops w.routes w.trips x q w.stops_are w.routes_are w.trips_are v u)
  feed_of (Ok x) (Err e) t w v u = absurd u
  feed_of (Err e) q t w v u = absurd v

-- the same of what is loaded
module _ (load : Table → Result Loaded FeedFault) where
  abbrev times_by : FeedLists → Result Records FeedFault
  times_by l = stop_times_from (load StopTimes) (named_with l.trips.ids l.stops)

  lists_read : (l : FeedLists) → AreLists load l → AreRead l (tables_from load) (times_by l) (frequencies_from (load Frequencies) l.trips.ids)
  lists_read l a = grind (arith, are_read)

-- and of a folder
module _ (m : FileMap) (folder : List ℕ) (limits : Limits) where
  pub fault_at_stops : (f : FeedFault) → stops_from (load_in m folder limits (unread_table f) Stops) ≡ Err f → IsFirstOfTables folder limits m f
  unfolding tables_in
  fault_at_stops f h = grind arith

  pub fault_at_routes : (stops : StopLists) (f : FeedFault) → IsFaultOf Routes f → HasStops (stops_from (load_in m folder limits None Stops)) stops
      → routes_from (load_in m folder limits (unread_table f) Routes) ≡ Err f → IsFirstOfTables folder limits m f
  unfolding tables_in
  fault_at_routes stops f own a h = grind (arith, routes_stop, load_in-other)

  pub fault_at_trips : (stops : StopLists) (routes : RouteLists) (f : FeedFault) → IsFaultOf Trips f → HasStops (stops_from (load_in m folder limits None Stops)) stops
      → HasRoutes (routes_from (load_in m folder limits None Routes)) routes → trips_from (load_in m folder limits (unread_table f) Trips) routes.ids ≡ Err f
      → IsFirstOfTables folder limits m f
  unfolding tables_in
  fault_at_trips stops routes f own a b h = grind (arith, trips_stop, load_in-other)

  module _ (l : FeedLists) where
    -- the lists are the same where another table could not be read
    beside : (f : FeedFault) (table : Table) → IsFaultOf table f → (rank_of table == 0) ≡ false → (rank_of table == 1) ≡ false → (rank_of table == 2) ≡ false
        → AreLists (load_in m folder limits None) l → AreLists (load_in m folder limits (unread_table f)) l
    beside f table own s r t a = grind (arith, load_in-other)

    pub fault_at_times : (f : FeedFault) → IsFaultOf StopTimes f → times_by (load_in m folder limits (unread_table f)) l ≡ Err f → AreLists (load_in m folder limits None) l
        → IsFirstOfTables folder limits m f
    unfolding tables_in
    fault_at_times f own h a = grind (arith, lists_read, beside, and_then-err, times_by)

    pub fault_at_repeats : (visits : List (List StopRow)) (f : FeedFault) → IsFaultOf Frequencies f
        → AreVisits (named_with l.trips.ids l.stops) (times_by (load_in m folder limits None) l) visits
        → frequencies_from (load_in m folder limits (unread_table f) Frequencies) l.trips.ids ≡ Err f → AreLists (load_in m folder limits None) l
        → IsFirstOfTables folder limits m f
    unfolding tables_in
    fault_at_repeats visits f own v h a = grind (arith, repeats_stop, times_by, lists_read, beside, load_in-other)

    pub feed_of_tables : (t : TripTimes) → AreLists (load_in m folder limits None) l → AreTripTimes (load_in m folder limits None) l t
        → IsFeedOf (tables_in m folder limits None) (parts_by l t)
    unfolding tables_in
    feed_of_tables t a v = let load = load_in m folder limits None in
        feed_of l (tables_from load) (times_by load l) (frequencies_from (load Frequencies) l.trips.ids) t (lists_read load l a) v.visits v.repeats

-- whatever the files say
pub sound_feed : (l : FeedLists) (t : TripTimes) → AreSoundLists l → AreSoundTimes l t → IsSoundFeed (parts_by l t)
sound_feed l t a v =
    let s = a.stops.table in
    let r = a.routes.table in
    let d = a.trips.table in
    let x = v.visits in
    let q = v.repeats in
    record {
      tables = record { stops = s.0; routes = r.0; trips = d.0; stop_times = x.0; frequencies = q.0 };
      stops = s.1;
      routes = r.1;
      trips = ap (λ z. trips_fault z d.0) (sym r.2.0) ∙ d.1;
      stop_times = ap (λ n. stop_times_fault n x.0) (λ i. named_by (sym d.2.0 i) (sym s.2.0 i) (sym s.2.1 i)) ∙ x.1;
      frequencies = ap (λ z. fault_of_frequencies z q.0) (sym d.2.0) ∙ q.1;
      feed = is_feed l t s.0 r.0 d.0 x.0 q.0 s.2 r.2 d.2 x.2 q.2;
    }
