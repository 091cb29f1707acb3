-- The timetable of a cut file, and the first fault of a journey over it.
use Rattle.std.specs.{Prelude.{◌≡◌, ℕ, Bool, List, [], Option, None, Some, Result, Ok, Err, if◌then◌else◌, slice_get, unwrap_or}, List.list_any, Str.bytes_eq}
use Rattle.std.specs.Option.{option_or}
use Rattle.file_ports.specs.Ports.{FileMap, file_at}
use Rattle.csv_rows.specs.{declared.limits.Limits.Limits, Tables.row_count}
use Rattle.cut_file.specs.{NumberedRows.place_names, CutNetworks.IsCutNetwork}
use Rattle.delay_table.specs.{DelayLists.DelayLists, Slots.AreDelays}
use Rattle.plan_model.specs.NameLists.{NameLists}
use Rattle.command_line.specs.Jobs.{JourneyModel, source_or_target}
use Rattle.journey_model.specs.declared.{faults.{Input.Input, Fault.{Fault, TheVariants.UnknownStop}}, problem.Problem.Problem}
use Rattle.journey_problem.specs.{Files.Records, Stops.first_which, InputTables.{IsCutTable, AreDelaysOf, cut_records, cut_fault, delay_fault}}
use Rattle.journey_model.specs.declared.faults.Which.TheVariants as which

-- the place names of the cut file
abbrev pub places_in : Result Records Fault → List (List ℕ)
places_in (Err fault) = []
places_in (Ok table) = place_names table (row_count table)

-- one of the names is this one
abbrev pub is_among : List (List ℕ) → List ℕ → Bool
is_among names name = list_any (λ other. bytes_eq name other) names

-- the first stop of a journey that no place is named by: the source, if it has one, or the target
abbrev pub stop_fault : List (List ℕ) → (from : Option (List ℕ)) (to : List ℕ) → Option Fault
stop_fault names from to =
    if is_among names (unwrap_or from to)
    then (if is_among names to then None else Some (UnknownStop which.To))
    else Some (UnknownStop (first_which from))

-- the first fault: of the cut file, of the delay file, of the stops
abbrev pub cut_problem_fault : Limits → FileMap → List ℕ → JourneyModel → Option Input → Option Fault
cut_problem_fault limits files path j unread =
    option_or (cut_fault limits (file_at files path) unread)
    (option_or (delay_fault limits (file_at files j.delays) unread)
    (stop_fault (places_in (cut_records limits unread (file_at files path))) j.from j.to))

-- the place has this name
abbrev pub IsNamed : NameLists → ℕ → List ℕ → Type 0
IsNamed names place name = slice_get names.places place ≡ Some name

-- the network and the names are those of the cut file of this table with these delays; and the journey goes from the place
-- that is named as its source to that of its target. A journey without a source has its target in place of one
pub record IsCutTimetable (table : Records) (lists : DelayLists) (j : JourneyModel) (p : Problem) : Type 0 where
  pub is_network : IsCutNetwork table lists p.timetable.network p.timetable.names
  pub source : IsNamed p.timetable.names p.source.0 (source_or_target j)
  pub target : IsNamed p.timetable.names p.target.0 j.to

-- this is so of some cut file with no fault and some delays
abbrev pub HasCutTimetable : JourneyModel → Problem → Type 0
HasCutTimetable j p = (table : Records) × (lists : DelayLists) × IsCutTable table × AreDelays lists × IsCutTimetable table lists j p

-- no file has a fault, and the timetable is that of the cut file with the delays of the delay file
pub record IsCutProblem (limits : Limits) (files : FileMap) (path : List ℕ) (j : JourneyModel) (p : Problem) : Type 0 where
  pub table : Records
  pub lists : DelayLists
  pub no_fault : cut_problem_fault limits files path j None ≡ None
  pub is_table : cut_records limits None (file_at files path) ≡ Ok table
  pub are_delays : AreDelaysOf limits (file_at files j.delays) lists
  pub timetable : IsCutTimetable table lists j p
