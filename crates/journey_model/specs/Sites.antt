-- Where in a timetable a fault is, and the text of that.
use Rattle.std.specs.Prelude.{ℕ, ◌<◌, ◌≤◌, List, [], ◌++◌, length, Option, None, Some, codes, decimal}
use Rattle.clock_text.specs.Civil.{moment_text}
pub use Rattle.clock_text.specs.Civil.{last_printable}
use Rattle.plan_model.specs.{declared.model.{Moment.Moment, PlaceId.PlaceId}, Network.{NetworkModel, count, run_of, step_of}, NameLists.NameLists}
use Rattle.printed_rows.specs.Records.{place_name, run_name}
use Rattle.trip_replay.specs.declared.ReplayFault.{ReplayFault}
use Rattle.journey_model.specs.declared.faults.{Site.{Site, TheVariants.{Arrival, Connection}}, Fault.{Fault, TheVariants.{Words, Feed, Cut, Missing, Delays}}}
use Rattle.journey_model.specs.declared.faults.Fault.TheVariants.{UnknownStop, Limit, Read, NoSafe, GraphFile, Replay, ProofFile, ProofFails, Unsafe, Write}
use Rattle.journey_model.specs.declared.faults.Fault.TheVariants.{NoMemory}
use Rattle.trip_replay.specs.declared.ReplayFault.TheVariants as replay

-- a timetable with its names, by which a line says where a fault is
pub record NamedParts : Type 0 where
  pub network : NetworkModel
  pub names : NameLists

-- where a trip is stuck
abbrev pub site_of_replay : ReplayFault → Option Site
site_of_replay (replay.NotADelay number) = None
site_of_replay (replay.TooFew ridden) = None
site_of_replay (replay.TooMany ridden) = None
site_of_replay (replay.Stuck place moment) = Some (Arrival place moment)
site_of_replay replay.NoMemory = None

-- where a fault is
abbrev pub site_of : Fault → Option Site
site_of (Words fault) = None
site_of (Feed fault) = None
site_of (Cut fault) = None
site_of (Missing input) = None
site_of (Delays fault) = None
site_of (UnknownStop which) = None
site_of (Limit kind count) = None
site_of (Read input) = None
site_of NoSafe = None
site_of (GraphFile fault) = None
site_of (Replay fault) = site_of_replay fault
site_of (ProofFile fault) = None
site_of (ProofFails connection) = Some (Connection connection)
site_of (Unsafe place moment) = Some (Arrival place moment)
site_of Write = None
site_of NoMemory = None

-- a place and a moment
abbrev pub arrival_text : NameLists → PlaceId → Moment → List ℕ
arrival_text names place moment = codes " at " ++ (place_name names place.0 ++ (codes " at " ++ moment_text moment.0))

-- the run and the step of a connection
abbrev pub step_text : NamedParts → ℕ → List ℕ
step_text known c = codes " at " ++ (run_name known.names (run_of known.network c) ++ (codes " step " ++ decimal (step_of known.network c)))

-- the text of a site
abbrev pub site_text : NamedParts → Site → List ℕ
site_text known (Arrival place moment) = arrival_text known.names place moment
site_text known (Connection connection) = step_text known connection.0

-- nothing, where a fault is at no site, or no timetable is known
abbrev pub site_text_in : Option NamedParts → Option Site → List ℕ
site_text_in known None = []
site_text_in None (Some site) = []
site_text_in (Some known) (Some site) = site_text known site

-- the place has a name, and the moment a text; the connection is there, and its run has a name
abbrev pub IsSiteOf : NamedParts → Site → Type 0
IsSiteOf known (Arrival place moment) = (place.0 < length known.names.places) × (moment.0 ≤ last_printable)
IsSiteOf known (Connection connection) = (connection.0 < count known.network) × (run_of known.network connection.0 < length known.names.runs)

-- where a fault is at a site, a timetable is known that has this site
abbrev pub HasSiteIn : Option NamedParts → Option Site → Type 0
HasSiteIn known None = Unit {0}
HasSiteIn None (Some site) = ⊥
HasSiteIn (Some known) (Some site) = IsSiteOf known site

abbrev pub HasSite : Option NamedParts → Fault → Type 0
HasSite known fault = HasSiteIn known (site_of fault)
