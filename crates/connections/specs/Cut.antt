-- The network of a feed from a start on, this many hours long, and when there is none.
use Rattle.std.specs.{Prelude.{ℕ, nat_lt, Option, Some, None, if◌then◌else◌, length}, Option.option_or}
use Rattle.csv_rows.specs.{declared.limits.Limits.Limits, Lists.list_below}
use Rattle.connections.specs.{declared.cuts.WindowFault.{WindowFault, TheVariants.{TooMany, TooManyEntries}}, Window.window_of, Counts.{count_in, entries_in}}
use Rattle.connections.specs.FeedNetworks.{IsNetworkOf}
use Rattle.plan_model.specs.{NameLists.NameLists, Network.NetworkModel}
use Rattle.change_times.specs.Changes.{ChangeParts, place_seconds, links_of}
use Rattle.delay_table.specs.DelayLists.{DelayLists}
use Rattle.gtfs_tables.specs.Feeds.{FeedParts}
use Rattle.service_days.specs.Services.{ServiceParts}

-- the first fault of a window with this many connections and entries
abbrev pub window_fault : Limits → (count entries : ℕ) → Option WindowFault
window_fault limits count entries = option_or
    (if nat_lt limits.connections count then Some (TooMany count) else None)
    (if nat_lt limits.entries entries then Some (TooManyEntries entries) else None)

-- its connections are those of the window, its change seconds and links are those of the feed's transfers, and its classes
-- those of the delays
abbrev pub IsNetworkFrom : FeedParts → ServiceParts → ChangeParts → DelayLists → (start horizon : ℕ) → NetworkModel → NameLists → Type 0
IsNetworkFrom f s c d start horizon network names =
    IsNetworkOf f s (list_below (place_seconds c) (length f.stop_ids)) (list_below (links_of c) (length f.stop_ids)) d (window_of start horizon) network names

-- how many connections the window has
abbrev pub connection_count : FeedParts → ServiceParts → (start horizon : ℕ) → ℕ
connection_count f s start horizon = count_in f s (window_of start horizon)

-- how many entries it has
abbrev pub entry_count : FeedParts → ServiceParts → ChangeParts → (start horizon : ℕ) → ℕ
entry_count f s c start horizon = entries_in f s c (window_of start horizon)

-- the first fault of the window
abbrev pub fault_from : Limits → FeedParts → ServiceParts → ChangeParts → (start horizon : ℕ) → Option WindowFault
fault_from limits f s c start horizon = window_fault limits (connection_count f s start horizon) (entry_count f s c start horizon)
