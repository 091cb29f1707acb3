-- Feeds and windows of which one has all that is in the other.
use Rattle.std.specs.Prelude.{◌≡◌, ℕ, ℤ, ◌+◌, ◌*◌, ◌/◌, ◌<◌, ◌≤◌, true, List, [], ◌∷◌, length, slice_index, slice_index_or, All, Contains}
use Rattle.plan_model.specs.{Bounds.seconds_per_day, NameLists.NameLists, Network.{IsValid, NetworkModel}, declared.model.Way.Way}
use Rattle.trip_frequencies.specs.declared.frequencies.FrequencyRow.{FrequencyRow}
use Rattle.gtfs_tables.specs.{Feeds.FeedParts, Timed.rows_of}
use Rattle.service_days.specs.Services.{ServiceParts, runs}
use Rattle.change_times.specs.Changes.{place_seconds, links_of}
use Rattle.journey_problem.specs.FeedProblems.{GtfsFolder}
use Rattle.delay_table.specs.DelayLists.{DelayLists}
use Rattle.connections.specs.{Cut.IsNetworkFrom, TripRuns.frequencies_of, FeedNetworks.route_of}

-- the row of frequencies on another line of its file
abbrev pub on_line : ℕ → FrequencyRow → FrequencyRow
on_line line row = record row { line = line }

-- what does not repeat does not, and what repeats does so by each of these rows, on whichever lines, and maybe by others
abbrev pub RepeatToo : (rows others : List FrequencyRow) → Type 0
RepeatToo [] [] = Unit {0}
RepeatToo [] (other ∷ others) = ⊥
RepeatToo (row ∷ rows) others = All (λ r. (line : ℕ) × Contains others (on_line line r)) (row ∷ rows)

-- a trip of a feed is one of another: with the same kept rows, the same route and its type, it runs on each of its days, and repeats as it did
pub record IsTripOf (less : FeedParts) (s : ServiceParts) (more : FeedParts) (t : ServiceParts) (trip other : ℕ) : Type 0 where
  pub inside : other < length more.trip_ids
  pub rows : rows_of more other ≡ rows_of less trip
  pub repeats : RepeatToo (frequencies_of less trip) (frequencies_of more other)
  pub type_of_route : slice_index more.route_types other ≡ slice_index less.route_types trip
  pub route : route_of more other ≡ route_of less trip
  pub active : (day : ℤ) → runs s (slice_index_or less.services trip []) day ≡ true → runs t (slice_index_or more.services other []) day ≡ true

-- each trip of the one feed is one of the other, wherever it stands there
abbrev pub HasTrips : (less : FeedParts) → (s : ServiceParts) → (more : FeedParts) → (t : ServiceParts) → Type 0
HasTrips less s more t = (trip : ℕ) → trip < length less.trip_ids → (other : ℕ) × IsTripOf less s more t trip other

-- each link is among the others, from the same place and no longer
abbrev pub HasLinks : (links others : List Way) → Type 0
HasLinks links others = All (λ way. (other : Way) × Contains others other × (other.from.0 ≡ way.from.0) × (other.seconds ≤ way.seconds)) links

-- one folder has all that is in another of the same places: each of its trips, each of its links or a shorter one, and changes that take no longer
pub record HasAllOf (less more : GtfsFolder) : Type 0 where
  pub places : length more.feed.stop_ids ≡ length less.feed.stop_ids
  pub trips : HasTrips less.feed less.services more.feed more.services
  pub changes : (place : ℕ) → place < length less.feed.stop_ids → place_seconds more.changes place ≤ place_seconds less.changes place
  pub links : (place : ℕ) → place < length less.feed.stop_ids → HasLinks (links_of less.changes place) (links_of more.changes place)

-- a window by its start and its hours, of what a folder has
pub record Timetable : Type 0 where
  pub parts : GtfsFolder
  pub start : ℕ
  pub horizon : ℕ

-- one timetable is part of another: the other has all of it, in a window that begins on the same date and is the same or larger
pub record IsPartOf (less more : Timetable) : Type 0 where
  pub all : HasAllOf less.parts more.parts
  pub date : more.start / seconds_per_day ≡ less.start / seconds_per_day
  pub from : more.start ≤ less.start
  pub to : less.start + 3600 * less.horizon ≤ more.start + 3600 * more.horizon

-- the network of a timetable by these delays, valid as each is
pub record IsNetworkOf (t : Timetable) (d : DelayLists) (network : NetworkModel) : Type 0 where
  pub names : NameLists
  pub valid : IsValid network
  pub is : IsNetworkFrom t.parts.feed t.parts.services t.parts.changes d t.start t.horizon network names
