-- The bounds of the tables of stops, routes and trips, as numbers.
use Rattle.std.specs.Prelude.{ℕ}

-- the most stops, routes and trips of a feed
abbrev pub most_stops : ℕ
most_stops = 1048576

abbrev pub most_routes : ℕ
most_routes = 65536

abbrev pub most_trips : ℕ
most_trips = 4194304
