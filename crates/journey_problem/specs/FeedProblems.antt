-- The timetable of a feed's folder, and the first fault of a journey over it.
use Rattle.std.specs.Prelude.{◌≡◌, ℕ, ◌+◌, ◌⊎◌, List, Option, None, Some, Err, IsOk, IsOkAnd, is_none, option_map, unwrap_or, if◌then◌else◌}
use Rattle.file_ports.specs.Ports.{FileMap, file_at}
use Rattle.csv_rows.specs.{declared.{feed_tables.FeedFault.FeedFault, limits.Limits.Limits}, FeedTables.unread_table}
use Rattle.gtfs_tables.specs.Feeds.{FeedParts, tables_in, IsFeedOf, IsSoundFeed}
use Rattle.service_days.specs.{Services.{ServiceParts, runs}, Calendars.{calendars_in, RunsBy, RunsBySome}}
use Rattle.change_times.specs.{Changes.{ChangeParts, AreCollectedChanges, AreReportedBySome, transfers_in}, Transfers.place_of_stop}
use Rattle.delay_table.specs.{DelayLists.DelayLists, Slots.AreDelays}
use Rattle.connections.specs.{declared.cuts.WindowFault.WindowFault, Cut.{IsNetworkFrom, fault_from}}
use Rattle.command_line.specs.Jobs.{JourneyModel, source_or_target}
use Rattle.journey_model.specs.declared.faults.{LimitKind.TheVariants.{Bytes, Rows, Connections, Entries}, Fault.{Fault, TheVariants.{Feed, UnknownStop}}}
use Rattle.journey_model.specs.{declared.{faults.Fault.TheVariants.{Limit, Read, NoMemory}, problem.Problem.Problem}, Faults.unread_input}
use Rattle.journey_problem.specs.{InputTables.{AreDelaysOf, delay_fault}, Stops.first_which, declared.feed_tables.FeedTables.FeedTables}
use Rattle.csv_rows.specs.declared.feed_tables.FeedFault.TheVariants as feed
use Rattle.connections.specs.declared.cuts.WindowFault.TheVariants as window
use Rattle.journey_model.specs.declared.faults.Input.TheVariants as input
use Rattle.journey_model.specs.declared.faults.Which.TheVariants as which

-- a fault of a feed as one of the run
abbrev pub feed_as : Limits → FeedFault → Fault
feed_as limits (feed.MissingTable table) = Feed (feed.MissingTable table)
feed_as limits (feed.MissingColumn table column) = Feed (feed.MissingColumn table column)
feed_as limits (feed.BadField table line column) = Feed (feed.BadField table line column)
feed_as limits (feed.UnknownKey table line column) = Feed (feed.UnknownKey table line column)
feed_as limits (feed.DuplicateKey table line) = Feed (feed.DuplicateKey table line)
feed_as limits (feed.BackwardTime line) = Feed (feed.BackwardTime line)
feed_as limits (feed.Read table) = Read (input.Feed table)
feed_as limits (feed.TooLong table) = Limit (Bytes (input.Feed table)) (limits.bytes + 1)
feed_as limits (feed.TooManyRows table count) = Limit (Rows table) count
feed_as limits feed.NoMemory = NoMemory

-- what a folder holds
pub record GtfsFolder : Type 0 where
  pub feed : FeedParts
  pub services : ServiceParts
  pub changes : ChangeParts

-- none of its tables has a fault, and these are its feed, its services and its change times
pub record IsFolder (limits : Limits) (files : FileMap) (folder : List ℕ) (h : GtfsFolder) : Type 0 where
  pub feed : IsFeedOf (tables_in files folder limits None) h.feed
  pub services : IsOkAnd (calendars_in files folder limits None) (RunsBy (runs h.services))
  pub changes : IsOkAnd (transfers_in files folder limits None h.feed) (AreCollectedChanges h.feed h.changes)

-- the later tables have no fault, and these are the services and the change times
abbrev pub AreRules : Limits → FileMap → List ℕ → FeedParts → ServiceParts → ChangeParts → Type 0
AreRules limits files folder f s c =
    IsOkAnd (calendars_in files folder limits None) (RunsBy (runs s)) × IsOkAnd (transfers_in files folder limits None f) (AreCollectedChanges f c)

-- after tables with no fault the first fault is this one, of the calendars or else of the transfers
abbrev pub IsLaterTableFault : Limits → FileMap → List ℕ → FeedParts → FeedFault → Type 0
IsLaterTableFault limits files folder f fault =
    (calendars_in files folder limits (unread_table fault) ≡ Err fault)
    ⊎ (IsOk (calendars_in files folder limits None) × (transfers_in files folder limits (unread_table fault) f ≡ Err fault))

-- the first fault of a folder is this one, if no table but that of the fault is unread: of the tables of the feed, or
-- else of the later ones
abbrev pub IsFolderFault : Limits → FileMap → List ℕ → FeedFault → Type 0
IsFolderFault limits files folder fault =
    (tables_in files folder limits (unread_table fault) ≡ Err fault)
    ⊎ ((f : FeedParts) × IsFeedOf (tables_in files folder limits None) f × IsLaterTableFault limits files folder f fault)

-- the first stop of a journey that the feed does not have: the source, if the journey has one, or the target
abbrev pub feed_stop_fault : FeedParts → (from : Option (List ℕ)) (to : List ℕ) → Option Fault
feed_stop_fault f from to =
    if is_none (place_of_stop f (unwrap_or from to)) then Some (UnknownStop (first_which from))
    else if is_none (place_of_stop f to) then Some (UnknownStop which.To)
    else None

-- a fault of a window as one of the run
abbrev pub window_as : WindowFault → Fault
window_as (window.TooMany count) = Limit Connections count
window_as (window.TooManyEntries count) = Limit Entries count
window_as window.NoMemory = NoMemory

-- the first fault of the window of the journey
abbrev pub window_fault_of : Limits → ℕ → JourneyModel → GtfsFolder → Option Fault
window_fault_of limits horizon j h = option_map window_as (fault_from limits h.feed h.services h.changes j.start horizon)

-- after a delay file with no fault the first fault is this one: of the stops, or else of the window
abbrev pub IsWindowFault : Limits → ℕ → JourneyModel → GtfsFolder → Fault → Type 0
IsWindowFault limits horizon j h fault =
    (feed_stop_fault h.feed j.from j.to ≡ Some fault)
    ⊎ ((feed_stop_fault h.feed j.from j.to ≡ None) × (window_fault_of limits horizon j h ≡ Some fault))

-- after a folder with no fault the first fault is this one: of the delay file, or else of the window
abbrev pub IsFaultAfterFolder : Limits → FileMap → ℕ → JourneyModel → GtfsFolder → Fault → Type 0
IsFaultAfterFolder limits files horizon j h fault =
    (delay_fault limits (file_at files j.delays) (unread_input fault) ≡ Some fault)
    ⊎ ((delay_fault limits (file_at files j.delays) None ≡ None) × IsWindowFault limits horizon j h fault)

-- the first fault is this one: of the folder, or else of what comes after it
abbrev pub IsFeedProblemFault : Limits → FileMap → List ℕ → ℕ → JourneyModel → Fault → Type 0
IsFeedProblemFault limits files folder horizon j fault =
    ((g : FeedFault) × (fault ≡ feed_as limits g) × IsFolderFault limits files folder g)
    ⊎ ((h : GtfsFolder) × IsFolder limits files folder h × IsFaultAfterFolder limits files horizon j h fault)

-- the network and the names are those of the window of a feed of these parts with these delays; and the journey goes from
-- the place of its source to that of its target. A journey without a source has its target in place of one
pub record IsFeedTimetable (parts : GtfsFolder) (lists : DelayLists) (horizon : ℕ) (j : JourneyModel) (p : Problem) : Type 0 where
  pub is_network : IsNetworkFrom parts.feed parts.services parts.changes lists j.start horizon p.timetable.network p.timetable.names
  pub source : place_of_stop parts.feed (source_or_target j) ≡ Some p.source.0
  pub target : place_of_stop parts.feed j.to ≡ Some p.target.0

-- whatever the files contain, each part is that of some tables with no fault
pub record IsSoundFolder (h : GtfsFolder) : Type 0 where
  pub feed : IsSoundFeed h.feed
  pub services : RunsBySome (runs h.services)
  pub changes : AreReportedBySome h.feed h.changes

-- this is so of some folder with no fault and some delays
abbrev pub HasFeedTimetable : ℕ → JourneyModel → Problem → Type 0
HasFeedTimetable horizon j p =
    (parts : GtfsFolder) × (lists : DelayLists) × IsSoundFolder parts × AreDelays lists × IsFeedTimetable parts lists horizon j p

-- no file has a fault, the timetable is that of the feed with the delays of the delay file, and its window has no fault
pub record IsFeedProblem (limits : Limits) (files : FileMap) (folder : List ℕ) (horizon : ℕ) (j : JourneyModel) (p : Problem) : Type 0 where
  pub parts : GtfsFolder
  pub lists : DelayLists
  pub is_folder : IsFolder limits files folder parts
  pub no_delay_fault : delay_fault limits (file_at files j.delays) None ≡ None
  pub are_delays : AreDelaysOf limits (file_at files j.delays) lists
  pub no_window_fault : window_fault_of limits horizon j parts ≡ None
  pub timetable : IsFeedTimetable parts lists horizon j p

abbrev pub gtfs_folder_of : FeedTables → GtfsFolder
gtfs_folder_of t = record { feed = t.feed; services = t.rules.services; changes = t.rules.changes }
