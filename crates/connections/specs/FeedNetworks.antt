-- The network of a feed in a window of time, and its names.
use Rattle.std.specs.Prelude.{◌≡◌, ℕ, ℤ, ◌+◌, ◌<◌, ◌≤◌, List, [], ◌∷◌, ◌++◌, map, length, slice_index, slice_index_or, Option, Some, None, decimal}
use Rattle.std.specs.Prelude.{unsigned_abs}
use Rattle.plan_model.specs.{Bounds.seconds_per_day, declared.model.{Connection.Connection, Way.Way}, NameLists.NameLists, Network.NetworkModel}
use Rattle.clock_text.specs.Times.{date_at}
use Rattle.delay_table.specs.DelayLists.{DelayLists, class_for}
use Rattle.stop_times.specs.declared.rows.StopRow.{StopRow}
use Rattle.gtfs_tables.specs.{Feeds.FeedParts, Timed.{rows_of, kept_at}}
use Rattle.service_days.specs.Services.{ServiceParts}
use Rattle.connections.specs.{declared.{origins.Origin.Origin, repeats.Repeat.Repeat, window.Window.Window, runs.Run.Run}, Joins.join_below, Origins.moment_of}
use Rattle.connections.specs.{Steps.departs, TripRuns.{run_steps, run_at, window_runs}}

-- when the connection from the k-th kept row to the next arrives
abbrev pub arrives : List StopRow → Origin → ℕ → ℤ
arrives rows o k = moment_of o (kept_at rows (k + 1)).arrival

-- the connection of a run from its k-th kept row to the next, with the number of the run, and its class by its arrival; it departs
-- in a window, so no moment of it is before 1970
abbrev pub connection_from : List StopRow → (o : Origin) → (number : ℕ) → (class : ℕ → ℕ) → (k : ℕ) → Connection
connection_from rows o number class k = record {
  from = (kept_at rows k).place;
  to = (kept_at rows (k + 1)).place;
  dep = record { 0 = unsigned_abs (departs rows o k) };
  arr = record { 0 = unsigned_abs (arrives rows o k) };
  run = record { 0 = number };
  step = k;
  class = record { 0 = class (unsigned_abs (arrives rows o k)) };
  can_board = (kept_at rows k).can_board;
  can_exit = (kept_at rows (k + 1)).can_exit;
}

-- the id of the route of a trip
abbrev pub route_of : FeedParts → ℕ → List ℕ
route_of f trip = slice_index_or f.route_ids (slice_index f.routes trip) []

-- the class of a connection of a trip by its arrival, its route type and its route
abbrev pub class_of_trip : FeedParts → DelayLists → (trip arr : ℕ) → ℕ
class_of_trip f d trip arr = class_for d (Some (slice_index f.route_types trip)) (Some (route_of f trip)) arr

-- the connections of a run in the window
unfoldable pub run_connections : FeedParts → DelayLists → Window → List Run → ℕ → List Connection
run_connections f d w rs r =
    map (connection_from (rows_of f (run_at rs r).trip) (run_at rs r).origin r (class_of_trip f d (run_at rs r).trip)) (run_steps f w (run_at rs r))

-- the connections of the first n runs, by run and step
unfoldable pub connections_below : FeedParts → DelayLists → Window → List Run → ℕ → List Connection
connections_below f d w rs n = join_below (run_connections f d w rs) n

-- a change takes from a second to a day
abbrev pub AreChanges : List ℕ → Type 0
AreChanges change = (p : ℕ) → p < length change → (1 ≤ slice_index change p) × (slice_index change p ≤ seconds_per_day)

-- the connections of the window
abbrev pub connections_in : FeedParts → ServiceParts → DelayLists → Window → List Connection
connections_in f s d w = connections_below f d w (window_runs f s w) (length (window_runs f s w))

-- of a run that a row of frequencies starts: an at sign, its departure from the first kept row in seconds of the service day, a
-- point, and the line of the row
abbrev pub start_text : Option Repeat → List ℕ
start_text None = []
start_text (Some r) = 64 ∷ decimal r.departure ++ 46 ∷ decimal r.line

-- the service date as YYYYMMDD, how it starts where a row of frequencies says so, a colon, and the id of the trip
pub record IsRunName (f : FeedParts) (run : Run) (name : List ℕ) : Type 0 where
  pub date : List ℕ
  pub reads : date_at date ≡ Some run.origin.day.number
  pub text : name ≡ (date ++ start_text run.repeat) ++ 58 ∷ slice_index_or f.trip_ids run.trip []

-- the names of the first n runs
pub record AreRunNames (f : FeedParts) (rs : List Run) (n : ℕ) (names : List (List ℕ)) : Type 0 where
  pub size : length names ≡ n
  pub each : (r : ℕ) → r < n → IsRunName f (run_at rs r) (slice_index_or names r [])

-- the network of a window: its connections, the change seconds of each place, the links into it, and the classes of the
-- delays; places have the ids of their stops as names
pub record IsNetworkOf (f : FeedParts) (s : ServiceParts) (change : List ℕ) (links : List (List Way)) (d : DelayLists) (w : Window) (network : NetworkModel) (names : NameLists) : Type 0 where
  pub connections : network.connections ≡ connections_in f s d w
  pub change_of_places : network.change ≡ change
  pub links_of_places : network.links ≡ links
  pub classes_of_delays : network.classes ≡ d.classes
  pub places : names.places ≡ f.stop_ids
  pub runs : AreRunNames f (window_runs f s w) (length (window_runs f s w)) names.runs
