-- A folder with more trips has all that is in the one without.
use Rattle.std.proofs.Common.{arith, ◌≤◌, ◌≡◌, ℕ, ◌<◌, List, length, Option, None, Result, Ok, IsOkAnd, refl, sym, ap, ap₂, ◌∙◌, subst}
use Rattle.plan_model.specs.Results.{and_then, unless}
use Rattle.file_ports.specs.Ports.{FileMap}
use Rattle.csv_rows.specs.declared.{limits.Limits.Limits, feed_tables.{Table.{Table, TheVariants.{Stops, Routes, Trips, StopTimes, Frequencies}}, FeedFault.FeedFault}}
use Rattle.table_files.specs.{declared.loading.Loaded.Loaded, Loading.{load_in, Records}}
use Rattle.feed_lists.specs.{Lists.{stops_from, routes_from, trips_from}, Stops.{stop_ids, stop_places, stops_fault}, Routes.{route_ids, routes_fault}, Trips.{trip_ids, trips_fault}}
use Rattle.stop_times.specs.{StopTimes.stop_times_fault, Timetables.stop_times_from}
use Rattle.trip_frequencies.specs.Frequencies.{frequencies_from, fault_of_frequencies}
use Rattle.gtfs_tables.specs.Feeds.{FeedParts, Tables, IsFeed, IsFeedOf, IsSoundFeed, named_in, tables_from}
unfoldable use Rattle.gtfs_tables.specs.Feeds.{tables_in}
use Rattle.service_days.specs.{Services.{ServiceParts, runs}, Calendars.{Calendars, RunsBy}}
use Rattle.change_times.specs.Changes.{ChangeParts, AreCollectedChanges, place_seconds, links_of, change_time, links_in, transfers_from}
unfoldable use Rattle.change_times.specs.Transfers.{transfer_at}
use Rattle.journey_problem.specs.FeedProblems.{GtfsFolder, IsFolder}
use Rattle.window_laws.specs.{MoreTrips.{HasLinks, HasAllOf}, MoreFiles.{AreAmongTables, RunNoLess, HasMoreRows}}
use Rattle.window_laws.proofs.{Inserted.own_links, Tables.{trips_among, places_same}}

no_more : {a b : ℕ} → a ≡ b → a ≤ b
no_more same = omega (arith, same)

-- a part that is read where the one before it is
then_parts : {A B E : Type 0} (r : Result A E) (next : A → Result B E) (b : B) → and_then r next ≡ Ok b → (a : A) × (r ≡ Ok a) × (next a ≡ Ok b)
then_parts r next b is = grind arith

unless_parts : {A E : Type 0} (o : Option E) (a b : A) → unless o a ≡ Ok b → (o ≡ None) × (a ≡ b)
unless_parts o a b is = grind arith

-- a table that is read has no fault
no_fault : {T : Type 0} (r : Result T FeedFault) (fault : T → Option FeedFault) (t : T) → and_then r (λ t. unless (fault t) t) ≡ Ok t → fault t ≡ None
no_fault r fault t is = grind (arith, then_parts, unless_parts)

module _ (load : Table → Result Loaded FeedFault) (t : Tables) (is : tables_from load ≡ Ok t) (f : FeedParts) (feed : IsFeed t f) where
  sound : (s : IsSoundFeed f) × (s.tables ≡ t)
  sound =
      let (stops, stops_read, rest) = then_parts (stops_from (load Stops)) _ t is in
      let (routes, routes_read, rest) = then_parts (routes_from (load Routes)) _ t rest in
      let (trips, trips_read, rest) = then_parts (trips_from (load Trips) (route_ids routes)) _ t rest in
      let (times, times_read, rest) = then_parts (stop_times_from (load StopTimes) (named_in trips stops)) _ t rest in
      let (repeats, repeats_read, rest) = then_parts (frequencies_from (load Frequencies) (trip_ids trips)) _ t rest in
      let all : Tables = record { stops = stops; routes = routes; trips = trips; stop_times = times; frequencies = repeats } in
      let same : all ≡ t = cc in (
        record {
          tables = t;
          stops = subst (λ (x : Tables). stops_fault x.stops ≡ None) {x = all} same (no_fault _ stops_fault stops stops_read);
          routes = subst (λ (x : Tables). routes_fault x.routes ≡ None) {x = all} same (no_fault _ routes_fault routes routes_read);
          trips = subst (λ (x : Tables). trips_fault (route_ids x.routes) x.trips ≡ None) {x = all} same (no_fault _ (trips_fault (route_ids routes)) trips trips_read);
          stop_times = subst (λ (x : Tables). stop_times_fault (named_in x.trips x.stops) x.stop_times ≡ None) {x = all} same
              (no_fault _ (stop_times_fault (named_in trips stops)) times times_read);
          frequencies = subst (λ (x : Tables). fault_of_frequencies (trip_ids x.trips) x.frequencies ≡ None) {x = all} same (no_fault _ (fault_of_frequencies (trip_ids trips)) repeats repeats_read);
          feed = feed;
        },
        refl,
      )

feed_of : (r : Result Tables FeedFault) (t : Tables) (f : FeedParts) → r ≡ Ok t → IsFeedOf r f → IsFeed t f
feed_of r t f is feed = subst (λ (x : Result Tables FeedFault). IsFeedOf x f) is feed

-- services by these calendars
days_of : (r : Result Calendars FeedFault) (c : Calendars) (s : ServiceParts) → r ≡ Ok c → IsOkAnd r (RunsBy (runs s)) → RunsBy (runs s) c
days_of r c s is by = subst (λ (x : Result Calendars FeedFault). IsOkAnd x (RunsBy (runs s))) is by

-- changes by the same transfers, at the same stops
module _ (f g : FeedParts) (stops : g.stop_ids ≡ f.stop_ids) (places : g.places ≡ f.places) where
  abbrev at : List (List ℕ) → List ℕ → FeedParts
  at ids own = record f { stop_ids = ids; places = own }

  time_same : (t : Records) (place : ℕ) → change_time g t place ≡ change_time f t place
  unfolding transfer_at
  time_same t place = ap₂ (λ (ids : List (List ℕ)) (own : List ℕ). change_time (at ids own) t place) stops places

  in_same : (t : Records) (place : ℕ) → links_in g t place ≡ links_in f t place
  unfolding transfer_at
  in_same t place = ap₂ (λ (ids : List (List ℕ)) (own : List ℕ). links_in (at ids own) t place) stops places

  module _ (c d : ChangeParts) where
    collected : (o p : Option FeedFault) (t : Records) → IsOkAnd (unless o t) (AreCollectedChanges f c) → IsOkAnd (unless p t) (AreCollectedChanges g d)
        → AreCollectedChanges f c t × AreCollectedChanges g d t
    collected o p t a b = grind arith

    both_collected : (l : Result Loaded FeedFault) → IsOkAnd (transfers_from f l) (AreCollectedChanges f c) → IsOkAnd (transfers_from g l) (AreCollectedChanges g d)
        → (t : Records) × AreCollectedChanges f c t × AreCollectedChanges g d t
    both_collected l a b = grind (arith, collected)

    changes_same : (t : Records) → AreCollectedChanges f c t → AreCollectedChanges g d t → (place : ℕ) → place_seconds d place ≡ place_seconds c place
    changes_same t a b place = b.seconds place ∙ time_same t place ∙ sym (a.seconds place)

    links_same : (t : Records) → AreCollectedChanges f c t → AreCollectedChanges g d t → (place : ℕ) → place < length f.stop_ids → links_of d place ≡ links_of c place
    links_same t a b place inside = b.links place (subst (λ (xs : List (List ℕ)). place < length xs) (sym stops) inside) ∙ in_same t place ∙ sym (a.links place inside)

module _ (limits : Limits) (files others : FileMap) (folder other : List ℕ) (more : HasMoreRows limits files folder others other) (h k : GtfsFolder)
    (is : IsFolder limits files folder h) (are : IsFolder limits others other k) where
  here : (s : IsSoundFeed h.feed) × (s.tables ≡ more.tables)
  unfolding tables_in
  here = sound (load_in files folder limits None) more.tables more.reads h.feed (feed_of (tables_from (load_in files folder limits None)) more.tables h.feed more.reads is.feed)

  there : (s : IsSoundFeed k.feed) × (s.tables ≡ more.more)
  unfolding tables_in
  there = sound (load_in others other limits None) more.more more.reads_more k.feed (feed_of (tables_from (load_in others other limits None)) more.more k.feed more.reads_more are.feed)

  among : AreAmongTables here.0.tables there.0.tables
  among = rw (here.1, there.1) more.among

  pub stops_same : k.feed.stop_ids ≡ h.feed.stop_ids
  stops_same = there.0.feed.stops ∙ ap stop_ids among.stops ∙ sym here.0.feed.stops

  pub own_places : k.feed.places ≡ h.feed.places
  own_places = there.0.feed.places_of_stops ∙ ap stop_places among.stops ∙ sym here.0.feed.places_of_stops

  collected_both : (t : Records) × AreCollectedChanges h.feed h.changes t × AreCollectedChanges k.feed k.changes t
  collected_both = grind (arith, both_collected, stops_same, own_places)

  run_no_less : RunNoLess h.services k.services
  run_no_less = grind (arith, days_of)

  pub has_all : HasAllOf h k
  has_all =
      let (t, a, b) = collected_both in
      record {
        places = places_same h.feed k.feed here.0 there.0 among;
        trips = trips_among h.feed k.feed here.0 there.0 among h.services k.services run_no_less;
        changes = λ place inside. no_more (changes_same h.feed k.feed stops_same own_places h.changes k.changes t a b place);
        links = λ place inside. subst (HasLinks (links_of h.changes place)) (sym (links_same h.feed k.feed stops_same own_places h.changes k.changes t a b place inside)) (own_links (links_of h.changes place));
      }
