-- The problem that a journey asks about, or its first fault.
use Rattle.std.specs.Prelude.{◌≡◌, ◌≢◌, Option, Some, IfSome}
use Rattle.file_ports.specs.Ports.{FileMap}
use Rattle.csv_rows.specs.declared.limits.Limits.{Limits}
use Rattle.command_line.specs.Jobs.{SourceModel, CutFile, FeedFolder, JourneyModel}
use Rattle.journey_model.specs.{declared.{faults.Fault.{Fault, TheVariants.NoMemory}, problem.Problem.Problem}, Faults.{unread_input, IsUndisturbed}}
use Rattle.journey_problem.specs.{FaultsBeforeSearch.IsBeforeSearch, CutProblems.{cut_problem_fault, IsCutProblem, HasCutTimetable}, FeedProblems.IsFeedProblem}
use Rattle.journey_problem.specs.FeedProblems.{IsFeedProblemFault, HasFeedTimetable}

-- this is the problem of the journey, and its files have no fault
abbrev pub IsProblemOver : Limits → FileMap → SourceModel → JourneyModel → Problem → Type 0
IsProblemOver limits files (CutFile path) j p = IsCutProblem limits files path j p
IsProblemOver limits files (FeedFolder folder horizon) j p = IsFeedProblem limits files folder horizon j p

abbrev pub IsProblem : Limits → FileMap → JourneyModel → Problem → Type 0
IsProblem limits files j p = IsProblemOver limits files j.timetable j p

-- this is the first fault of the journey's files, if no file but that of the fault is unread
abbrev pub IsProblemFaultOver : Limits → FileMap → SourceModel → JourneyModel → Fault → Type 0
IsProblemFaultOver limits files (CutFile path) j fault = cut_problem_fault limits files path j (unread_input fault) ≡ Some fault
IsProblemFaultOver limits files (FeedFolder folder horizon) j fault = IsFeedProblemFault limits files folder horizon j fault

abbrev pub IsProblemFault : Limits → FileMap → JourneyModel → Fault → Type 0
IsProblemFault limits files j fault = fault ≢ NoMemory → IsProblemFaultOver limits files j.timetable j fault

-- the files of a journey have no fault, unless one fails to be read or there is no memory
abbrev pub IsFaultless : Limits → FileMap → JourneyModel → Type 0
IsFaultless limits files j =
    (fault : Fault) → IsUndisturbed (Some fault) → fault ≢ NoMemory → IsProblemFault limits files j fault → ⊥

-- the journey's files or its stops have this fault; if the files are known, it is the first
abbrev pub FailsBeforeSearch : Option FileMap → Limits → JourneyModel → Fault → Type 0
FailsBeforeSearch contents limits j fault = IsBeforeSearch j.timetable fault × IfSome contents (λ files. IsProblemFault limits files j fault)

-- the problem is that of the journey over some timetable with some delays
abbrev pub HasTimetable : SourceModel → JourneyModel → Problem → Type 0
HasTimetable (CutFile path) j p = HasCutTimetable j p
HasTimetable (FeedFolder folder horizon) j p = HasFeedTimetable horizon j p

-- there is a problem of the journey, that of its files if they are known, of which this holds
abbrev pub InProblem : Option FileMap → Limits → JourneyModel → (Problem → Type 0) → Type 0
InProblem contents limits j P = (p : Problem) × HasTimetable j.timetable j p × IfSome contents (λ files. IsProblem limits files j p) × P p
