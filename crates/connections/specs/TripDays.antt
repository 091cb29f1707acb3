-- The services of trips by their numbers.
use Rattle.std.specs.Prelude.{ℕ, List, [], length, slice_index_or, Option}
use Rattle.csv_rows.specs.{Lists.list_below, Tables.number_in}
use Rattle.gtfs_tables.specs.Feeds.{FeedParts}
use Rattle.service_days.specs.Services.{ServiceParts}

-- a feed and its services
pub record FeedDays : Type 0 where
  pub feed : FeedParts
  pub services : ServiceParts

-- the number of the service of each trip, where the calendars name it
abbrev pub service_numbers : FeedParts → ServiceParts → List (Option ℕ)
service_numbers f s = list_below (λ trip. number_in (slice_index_or f.services trip []) s.ids) (length f.trip_ids)
