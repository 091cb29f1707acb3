-- The routes of a feed by their numbers among those that delays name.
use Rattle.std.specs.Prelude.{◌≡◌, ℕ, List, [], length, slice_index_or, Option}
use Rattle.csv_rows.specs.{Lists.list_below, Tables.number_in}
use Rattle.delay_table.specs.{DelayLists.{DelayLists, hour_of}, Groups.routes_of}
use Rattle.gtfs_tables.specs.Feeds.{FeedParts}
use Rattle.connections.specs.{FeedNetworks.{route_of, class_of_trip}, declared.window_connections.HourClass.HourClass}

-- the number of a route, where the delays name it
abbrev pub route_number : DelayLists → List ℕ → Option ℕ
route_number d route = number_in route (routes_of d.others)

-- that of each route of a feed
abbrev pub route_numbers : FeedParts → DelayLists → List (Option ℕ)
route_numbers f d = list_below (λ k. route_number d (slice_index_or f.route_ids k [])) (length f.route_ids)

-- it is that of the route of a trip
abbrev pub IsRouteOf : FeedParts → DelayLists → ℕ → Option ℕ → Type 0
IsRouteOf f d trip number = number ≡ route_number d (route_of f trip)

-- the class of each connection of a trip that arrives in this hour
abbrev pub IsClassOfHour : FeedParts → DelayLists → ℕ → HourClass → Type 0
IsClassOfHour f d trip known = (arr : ℕ) → hour_of arr ≡ known.hour → known.class ≡ class_of_trip f d trip arr
