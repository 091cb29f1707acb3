-- The change time of each place of a feed, and the links between places.
use Rattle.std.specs.{Prelude.{◌≡◌, ℕ, ◌<◌, ◌≤◌, max, nat_eq, List, length, All, count_by, is_none, Option, None, Some, Result}, Map.lookup}
use Rattle.plan_model.specs.{Results.{and_then, unless}, declared.model.Way.Way}
use Rattle.file_ports.specs.Ports.{FileMap}
use Rattle.csv_rows.specs.{declared.{feed_tables.{Table.{Table, TheVariants.Transfers}, FeedFault.FeedFault}, limits.Limits.Limits}, Lists.list_below}
use Rattle.csv_rows.specs.Tables.{row_count}
use Rattle.table_files.specs.{declared.loading.Loaded.{Loaded, TheVariants.{Absent, NoRecord, Found}}, Loading.{load_in, loaded_rows, Records}}
use Rattle.gtfs_tables.specs.Feeds.{FeedParts}
use Rattle.change_times.specs.{Transfers.{transfer_reported_by, transfers_fault}, Walks.{greatest_below, seconds_between, link_between}, Links.ways_at}
use Rattle.change_times.specs.Links.{ways_below}

-- a change takes a second at least, and 120 if no row says it
abbrev pub change_seconds : Option ℕ → ℕ
change_seconds None = 120
change_seconds (Some seconds) = max 1 seconds

-- the greatest seconds of a transfer that stays at a place, of the first n rows
abbrev pub greatest_change : FeedParts → Records → ℕ → (place : ℕ) → Option ℕ
greatest_change feed t n place = greatest_below (λ i. seconds_between place place (transfer_reported_by feed t i)) n

-- the change time of a place: the greatest of the transfers that stay there
abbrev pub change_time : FeedParts → Records → ℕ → ℕ
change_time feed t place = change_seconds (greatest_change feed t (row_count t) place)

-- the greatest seconds of a transfer from one place to another, of the first n rows
abbrev pub greatest_link : FeedParts → Records → ℕ → (from to : ℕ) → Option ℕ
greatest_link feed t n from to = greatest_below (λ i. link_between from to (transfer_reported_by feed t i)) n

-- the links into a place: the greatest of the transfers from each other place to it
abbrev pub links_in : FeedParts → Records → ℕ → List Way
links_in feed t place = ways_below (λ from. greatest_link feed t (row_count t) from place) (length feed.stop_ids)

-- how many of the first n rows have no transfer
abbrev pub passed_below : FeedParts → Records → ℕ → ℕ
passed_below feed t n = count_by is_none (list_below (transfer_reported_by feed t) n)

-- the places for which a row has seconds, with the greatest of these, the links into each place, and how many rows
-- have neither; where the lists of links end, no link leads into the places from there on
pub record ChangeParts : Type 0 where
  pub reported : List (ℕ × ℕ)
  pub links : List (List Way)
  pub passed : ℕ

-- the seconds that a change at a place takes
abbrev pub place_seconds : ChangeParts → ℕ → ℕ
place_seconds c place = change_seconds (lookup (nat_eq place) c.reported)

-- the links into a place
abbrev pub links_of : ChangeParts → ℕ → List Way
links_of c place = ways_at c.links place

-- each link comes from one of this number of places
abbrev pub LinksComeFrom : ℕ → ChangeParts → Type 0
LinksComeFrom places c = (place : ℕ) → All (λ way. way.from.0 < places) (links_of c place)

-- these are the change times and the links of a table; a place that the feed does not have has no link into it
pub record AreCollectedChanges (feed : FeedParts) (c : ChangeParts) (t : Records) : Type 0 where
  pub seconds : (place : ℕ) → place_seconds c place ≡ change_time feed t place
  pub links : (place : ℕ) → place < length feed.stop_ids → links_of c place ≡ links_in feed t place
  pub few : length c.links ≤ length feed.stop_ids
  pub passed : c.passed ≡ passed_below feed t (row_count t)

-- a table that is absent has no fault, and neither has one whose file has no record
abbrev pub fault_of_transfers : FeedParts → Loaded → Option FeedFault
fault_of_transfers feed (Found t) = transfers_fault feed t
fault_of_transfers feed Absent = None
fault_of_transfers feed NoRecord = None

-- whatever the files say, change times and links are those of some table with no fault
pub record AreReportedBySome (feed : FeedParts) (c : ChangeParts) : Type 0 where
  pub loaded : Loaded
  pub no_fault : fault_of_transfers feed loaded ≡ None
  pub reported : AreCollectedChanges feed c (loaded_rows loaded)

abbrev pub transfers_from : FeedParts → Result Loaded FeedFault → Result Records FeedFault
transfers_from feed loaded = and_then loaded (λ l. unless (fault_of_transfers feed l) (loaded_rows l))

-- the transfers of a folder, or the first of their faults
abbrev pub transfers_in : FileMap → List ℕ → Limits → Option Table → FeedParts → Result Records FeedFault
transfers_in files folder limits unread feed = transfers_from feed (load_in files folder limits unread Transfers)
