-- The paths of the files that a command reads beside those of its journey, and what agrees at those of a journey.
use Rattle.std.specs.Prelude.{◌≢◌, ℕ, List, Some, None}
use Rattle.file_ports.specs.Ports.{FileMap}
use Rattle.csv_rows.specs.declared.limits.Limits.{Limits}
use Rattle.command_line.specs.Jobs.{JourneyModel}
use Rattle.journey_model.specs.declared.faults.Input.{Input}
use Rattle.journey_problem.specs.Files.{OwnPaths, path_of, AgreeAt, ReadAlikeAt}
use Rattle.journey_model.specs.declared.faults.Input.TheVariants as input

-- no file is
abbrev pub no_path : OwnPaths
no_path input = None

-- the files agree at the paths of the journey
abbrev pub AgreeFor : JourneyModel → FileMap → FileMap → Type 0
AgreeFor j files others = AgreeAt (path_of j no_path) files others

-- the files at these have the same records, in whatever form
abbrev pub ReadAlike : Limits → JourneyModel → FileMap → FileMap → Type 0
ReadAlike limits j files others = ReadAlikeAt limits.bytes (path_of j no_path) files others

-- the path is none of the journey's
abbrev pub IsElsewhere : JourneyModel → List ℕ → Type 0
IsElsewhere j path = (input : Input) → path_of j no_path input ≢ Some path

-- a graph file is
abbrev pub graph_path : List ℕ → OwnPaths
graph_path path (input.Feed table) = None
graph_path path input.Cut = None
graph_path path input.Delays = None
graph_path path input.Graph = Some path
graph_path path input.Proof = None

-- a certificate file is
abbrev pub certificate_path : List ℕ → OwnPaths
certificate_path path (input.Feed table) = None
certificate_path path input.Cut = None
certificate_path path input.Delays = None
certificate_path path input.Graph = None
certificate_path path input.Proof = Some path
