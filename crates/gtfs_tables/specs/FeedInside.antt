-- The parts of a feed.
use Rattle.std.specs.{Prelude.{◌≡◌, ℕ, ◌<◌, ◌≤◌, [], slice_index_or, length, All}, List.Sorted.IsNonDecreasing}
use Rattle.gtfs_tables.specs.{declared.feed.Feed.TheInside.Inside, Feeds.{FeedParts, IsSoundFeed}, Parts.parts_by}
use Rattle.stop_times.specs.StopTimeBounds.{most_stop_times}
use Rattle.trip_frequencies.specs.FrequencyBounds.{most_frequencies}
use Rattle.feed_lists.specs.ListBounds.{most_stops, most_trips}

abbrev pub feed_parts_of : Inside → FeedParts
feed_parts_of f = parts_by f.lists f.times

-- each stop has a place, each trip has a service, a type, one of the routes and its rows, the rows of frequencies are in the order of
-- their trips, there are no more than tables may have, and the parts are a feed
pub record IsWholeFeed (f : Inside) : Type 0 where
  pub places : length f.lists.stops.places.items ≡ length f.lists.stops.ids
  pub services : length f.lists.trips.of_trips.services.items ≡ length f.lists.trips.ids
  pub types : length f.lists.trips.of_trips.types.items ≡ length f.lists.trips.ids
  pub routes : length f.lists.trips.of_trips.routes.items ≡ length f.lists.trips.ids
  pub known : All (λ route. route < length f.lists.routes.ids) f.lists.trips.of_trips.routes.items
  pub visits : length f.times.visits ≡ length f.lists.trips.ids
  pub ordered : IsNonDecreasing f.times.repeats.trips.items
  pub paired : length f.times.repeats.rows.items ≡ length f.times.repeats.trips.items
  pub few_stops : length f.lists.stops.ids ≤ most_stops
  pub few_trips : length f.lists.trips.ids ≤ most_trips
  pub few_rows : (trip : ℕ) → trip < length f.lists.trips.ids
      → length (slice_index_or f.times.visits trip []) ≤ most_stop_times
  pub few_frequencies : length f.times.repeats.rows.items ≤ most_frequencies
  pub sound : IsSoundFeed (feed_parts_of f)
