-- The files of a journey have one problem, and no other file counts.
use Rattle.std.specs.Prelude.{◌≡◌, ◌≢◌, ◌↔◌, ℕ, List, Option, Some}
use Rattle.file_ports.specs.{Ports.FileMap, Steady.PutsFile}
use Rattle.csv_rows.specs.declared.limits.Limits.{Limits}
use Rattle.command_line.specs.Jobs.{JourneyModel}
use Rattle.journey_model.specs.{declared.{faults.Fault.{Fault, TheVariants.NoMemory}, problem.Problem.Problem}, Faults.IsUndisturbed}
use Rattle.journey_problem.specs.{Paths.{AgreeFor, ReadAlike, IsElsewhere}, Problems.{IsProblem, IsProblemFault}}

-- two problems of a journey over the same files are one
abbrev pub HasOneProblem : Type 0
HasOneProblem =
    (limits : Limits) (files : FileMap) (j : JourneyModel) (p q : Problem)
    → IsProblem limits files j p → IsProblem limits files j q → p ≡ q

-- where a journey begins, or that it has no source, changes neither its timetable nor its target
abbrev pub HasOneTimetable : Type 0
HasOneTimetable =
    (limits : Limits) (files : FileMap) (j : JourneyModel) (from : Option (List ℕ)) (p q : Problem)
    → IsProblem limits files j p → IsProblem limits files (record j { from = from }) q
    → (p.timetable ≡ q.timetable) × (p.target ≡ q.target)

-- files of which a problem is made have no fault, unless one fails to be read or there is no memory
abbrev pub HasNoFault : Type 0
HasNoFault =
    (limits : Limits) (files : FileMap) (j : JourneyModel) (p : Problem) (fault : Fault) → IsProblem limits files j p
    → IsUndisturbed (Some fault) → fault ≢ NoMemory → IsProblemFault limits files j fault → ⊥

-- files that agree at the paths of a journey have the same problem
abbrev pub HasOwnProblem : Type 0
HasOwnProblem =
    (limits : Limits) (files others : FileMap) (j : JourneyModel) (p : Problem) → AgreeFor j files others
    → IsProblem limits files j p ↔ IsProblem limits others j p

-- and the same first fault
abbrev pub HasOwnFault : Type 0
HasOwnFault =
    (limits : Limits) (files others : FileMap) (j : JourneyModel) (fault : Fault) → AgreeFor j files others
    → IsProblemFault limits files j fault ↔ IsProblemFault limits others j fault

-- and so do files with the same records, whatever their form
abbrev pub HasProblemOfRecords : Type 0
HasProblemOfRecords =
    (limits : Limits) (files others : FileMap) (j : JourneyModel) (p : Problem) → ReadAlike limits j files others
    → IsProblem limits files j p ↔ IsProblem limits others j p

abbrev pub HasFaultOfRecords : Type 0
HasFaultOfRecords =
    (limits : Limits) (files others : FileMap) (j : JourneyModel) (fault : Fault) → ReadAlike limits j files others
    → IsProblemFault limits files j fault ↔ IsProblemFault limits others j fault

-- files to which one is put elsewhere agree with what they were
abbrev pub KeepsOwnFiles : Type 0
KeepsOwnFiles =
    (files others : FileMap) (j : JourneyModel) (path bytes : List ℕ) → IsElsewhere j path → PutsFile files others path bytes → AgreeFor j files others
