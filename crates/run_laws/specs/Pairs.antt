-- Two runs, each of its words over a host of its own, and how the one agrees with the other.
use Rattle.std.specs.Prelude.{◌≡◌, ◌≢◌, ℕ, ◌+◌, ◌<◌, ◌≤◌, List, [], None, Some, Ok, length}
use Rattle.file_ports.specs.Ports.{FileMap, file_at}
use Rattle.csv_rows.specs.declared.limits.Limits.{Limits}
use Rattle.interval_fixed.specs.Interval.{Interval}
use Rattle.plan_model.specs.{declared.model.{Moment.Moment, Query.Query}, Network.count, Tree.worst}
use Rattle.plan_graph.specs.{declared.{ExpandedGraph.ExpandedGraph, PlanGraph.PlanGraph}, Unfold.unfold_plan}
use Rattle.departure_table.specs.{declared.DepartureRow.DepartureRow, Departures.IsOfLastRow}
use Rattle.graph_text.specs.{declared.{Head.Head, reader.TextFault.TextFault}, FirstFaults.IsFirstFaultOf}
use Rattle.lower_proof.specs.{declared.LowerBounds.LowerBounds, Certificates.IsLeastAtStart}
use Rattle.trip_replay.specs.{Late.ArePossible, Walk.IsSafeAnswer}
use Rattle.command_line.specs.Jobs.{JourneyModel, AskModel, Ask, Safe, Expand, Plan, Replay, Certify, CheckProof, CheckGraph, Punctual, Departures, Latest}
use Rattle.command_line.specs.Jobs.{Reach, job_of}
use Rattle.journey_model.specs.declared.{faults.Fault.TheVariants.{GraphFile, NoSafe}, problem.Problem.Problem}
use Rattle.journey_problem.specs.{Problems.IsProblem, GraphFiles.graph_in}
use Rattle.journey_report.specs.{AnswerTexts.punctual_row, Findings.findings_of}
use Rattle.journey_answers.specs.Trips.{trip_by}
use Rattle.meat_engine.specs.Ends.{EndsByWalk}
use Rattle.run_laws.specs.{Greatest.CertificateIsGreatest, MoreService.{MoreIsNoLater, MoreLeavesNoSooner, MorePlansNoWorse, OrderKeepsWorst, OrderKeepsPlans}}
use Rattle.run_laws.specs.{OneRun.{EndAlike, FormsEndAlike}, Reaches.{ReachIsLatest, ReachIsFirstDeparture, LaterReachesMore}, Printed.ArrivesByFile}
use Rattle.run_laws.specs.{Printed.KeepsUpperBound, RowsOfPlans.{RowIsOfPlan, CutRowIsOfPlan}, Runs.{RunModel, IsUntroubled}, SamplePlans.SampleIsPlan}
use Rattle.run_laws.specs.{Saved.{SavingKeeps, FirstLineIsItsRow}, Wholes.IsOneStrategy}
pub use Rattle.run_laws.specs.TwoRuns.{AskOne, AskBoth, IsSaved, OrStatus9, EndWell, IsBySafety}

-- `check` of the graph that `plan` printed ends with 0, with the same upper bound
abbrev pub PlanIsAccepted : Limits → RunModel → RunModel → Type 0
PlanIsAccepted limits r s =
    (files others : FileMap) (j : JourneyModel) (alpha : ℕ) (path : List ℕ) → AskBoth files others j (Plan alpha) (CheckGraph path) r s → IsSaved limits others path [] r
    → OrStatus9 s ((s.report.status.0 ≡ 0) × KeepsUpperBound (findings_of r.report) (findings_of s.report))

-- a replay of the graph of a file, over the problem of the journey: the run ends as the walk by the graph does, and the walk is never
-- stuck and arrives by the deadline; and however late each connection is by its class, a replay with the delays that the traveller meets
-- ends with 0
pub record IsReplayed (limits : Limits) (files : FileMap) (j : JourneyModel) (path late : List ℕ) (s : RunModel) : Type 0 where
  pub problem : Problem
  pub is_problem : IsProblem limits files j problem
  pub head : Head
  pub graph : PlanGraph
  pub reads : graph_in limits problem j.start None (file_at files path) ≡ Ok (head, graph)
  pub ends : OrStatus9 s (EndsByWalk (trip_by problem head graph late) s.report.status.0)
  pub safe : IsSafeAnswer head.query.deadline.0 (trip_by problem head graph late)
  pub arrives : (lates : ℕ → ℕ) → ArePossible problem.timetable.network lates → ArrivesByFile limits files j.start path problem lates

-- `replay` of the graph that `plan` printed is such a replay
abbrev pub PlanIsReplayed : Limits → RunModel → RunModel → Type 0
PlanIsReplayed limits r s =
    (files others : FileMap) (j : JourneyModel) (alpha : ℕ) (path late : List ℕ) → AskBoth files others j (Plan alpha) (Replay path late) r s → IsSaved limits others path [] r
    → IsReplayed limits others j path late s

-- `check` of what `punctual` printed after the row of its chance ends with 0, with the same bounds
abbrev pub PunctualIsAccepted : Limits → RunModel → RunModel → Type 0
PunctualIsAccepted limits r s =
    (files others : FileMap) (j : JourneyModel) (alpha promise : ℕ) (path : List ℕ) (chance : Interval) → AskBoth files others j (Punctual alpha promise) (CheckGraph path) r s
    → r.report.chance ≡ Some chance → IsSaved limits others path (punctual_row promise chance) r
    → OrStatus9 s ((s.report.status.0 ≡ 0) × (r.report.bounds ≡ s.report.bounds))

-- `replay` of it is as of what `plan` printed
abbrev pub PunctualIsReplayed : Limits → RunModel → RunModel → Type 0
PunctualIsReplayed limits r s =
    (files others : FileMap) (j : JourneyModel) (alpha promise : ℕ) (path late : List ℕ) (chance : Interval) → AskBoth files others j (Punctual alpha promise) (Replay path late) r s
    → r.report.chance ≡ Some chance → IsSaved limits others path (punctual_row promise chance) r → IsReplayed limits others j path late s

-- `check` of the certificate that `certify` printed ends with 0
abbrev pub CertificateIsAccepted : Limits → RunModel → RunModel → Type 0
CertificateIsAccepted limits r s =
    (files others : FileMap) (j : JourneyModel) (alpha : ℕ) (path : List ℕ) → AskBoth files others j (Certify alpha) (CheckProof path) r s → IsSaved limits others path [] r
    → OrStatus9 s (s.report.status.0 ≡ 0)

-- `latest` and `departures` by one deadline end with one status
abbrev pub LeaveAlike : Limits → RunModel → RunModel → Type 0
LeaveAlike limits r s =
    (files others : FileMap) (j : JourneyModel) (until last : ℕ) (p : Problem) → AskBoth files others j (Latest until) (Departures until last) r s → IsProblem limits files j p
    → OrStatus9 r (OrStatus9 s (r.report.status.0 ≡ s.report.status.0))

-- `latest` ends with 0 where the least worst arrival that `safe` finds is by its deadline, and else with 1
abbrev pub LeaveByWorst : RunModel → RunModel → Type 0
LeaveByWorst r s =
    (files others : FileMap) (j : JourneyModel) (alpha until : ℕ) (arrival : Moment) → AskBoth files others j (Safe alpha) (Latest until) r s → r.report.fault ≡ None
    → r.report.worst ≡ Some arrival → OrStatus9 s ((arrival.0 ≤ until → s.report.status.0 ≡ 0) × (until < arrival.0 → s.report.status.0 ≡ 1))

-- `latest` ends with 1 where `safe` finds that no strategy is safe
abbrev pub NeverLeave : RunModel → RunModel → Type 0
NeverLeave r s =
    (files others : FileMap) (j : JourneyModel) (alpha until : ℕ) → AskBoth files others j (Safe alpha) (Latest until) r s → r.report.fault ≡ Some NoSafe
    → OrStatus9 s (s.report.status.0 ≡ 1)

-- any two that do end with one status, whatever the percentages
abbrev pub SearchAlike : Limits → RunModel → RunModel → Type 0
SearchAlike limits r s =
    (files others : FileMap) (j : JourneyModel) (alpha beta : ℕ) (a b : AskModel) (p : Problem) → AskBoth files others j a b r s
    → IsBySafety alpha a → IsBySafety beta b → IsProblem limits files j p → OrStatus9 r (OrStatus9 s (r.report.status.0 ≡ s.report.status.0))

-- and with one percentage they find one deadline and one least worst arrival
abbrev pub ShareQuery : RunModel → RunModel → Type 0
ShareQuery r s =
    (files others : FileMap) (j : JourneyModel) (alpha : ℕ) (a b : AskModel) → AskBoth files others j a b r s → IsBySafety alpha a → IsBySafety alpha b
    → EndWell r s → (r.report.query ≡ s.report.query) × (r.report.worst ≡ s.report.worst)

-- the least value at the start of the certificate that `certify` finds is at most the upper bound of `plan`, whose lower bound is
-- at most that value and a nanosecond for each connection
abbrev pub CertificateIsWithin : Limits → RunModel → RunModel → Type 0
CertificateIsWithin limits r s =
    (files others : FileMap) (j : JourneyModel) (alpha : ℕ) (p : Problem) (query : Query) (bounds : Interval) (proof : LowerBounds) (v : ℕ)
    → AskBoth files others j (Plan alpha) (Certify alpha) r s → EndWell r s → IsProblem limits files j p
    → r.report.query ≡ Some query → r.report.bounds ≡ Some bounds → s.report.proof ≡ Some proof
    → IsLeastAtStart p.timetable.network query proof.values (Some v) → (v ≤ bounds.hi) × (bounds.lo ≤ v + count p.timetable.network)

-- the graphs that `expand` and `plan` find are of one strategy, with the same bounds
abbrev pub ShareStrategy : Limits → RunModel → RunModel → Type 0
ShareStrategy limits r s =
    (files others : FileMap) (j : JourneyModel) (alpha : ℕ) (p : Problem) (query : Query) (rides : ExpandedGraph) (places : PlanGraph) (bounds spans : Interval)
    → AskBoth files others j (Expand alpha) (Plan alpha) r s → EndWell r s → IsProblem limits files j p
    → r.report.query ≡ Some query → r.report.expanded ≡ Some rides → s.report.graph ≡ Some places
    → r.report.bounds ≡ Some bounds → s.report.bounds ≡ Some spans
    → IsOneStrategy p.timetable.network query rides places bounds spans

-- `punctual` with a promise at its deadline or later finds no chance of being late
abbrev pub PromiseIsSure : RunModel → Type 0
PromiseIsSure r =
    (files : FileMap) (j : JourneyModel) (alpha promise : ℕ) (query : Query) (chance : Interval)
    → AskOne files j (Punctual alpha promise) r → r.report.query ≡ Some query → r.report.chance ≡ Some chance → query.deadline.0 ≤ promise
    → chance ≡ record { lo = 0; hi = 0 }

-- the plan whose deadline is the least worst arrival arrives by then at worst
abbrev pub WorstIsKept : Limits → RunModel → Type 0
WorstIsKept limits r =
    (files : FileMap) (j : JourneyModel) (alpha : ℕ) (p : Problem) (query : Query) (graph : PlanGraph)
    → AskOne files j (Plan alpha) r → IsProblem limits files j p → r.report.query ≡ Some query → r.report.graph ≡ Some graph
    → r.report.worst ≡ Some query.deadline → worst (unfold_plan graph p.timetable.network query) ≡ query.deadline.0

-- with a later deadline the upper bound of `plan` is at most that with the sooner one
abbrev pub LaterIsNoWorse : RunModel → RunModel → Type 0
LaterIsNoWorse r s =
    (files others : FileMap) (j : JourneyModel) (alpha beta : ℕ) (query other : Query) (bounds later : Interval)
    → AskBoth files others j (Plan alpha) (Plan beta) r s → EndWell r s → r.report.query ≡ Some query → s.report.query ≡ Some other
    → r.report.bounds ≡ Some bounds → s.report.bounds ≡ Some later → query.deadline.0 ≤ other.deadline.0 → later.hi ≤ bounds.hi

-- no row of `departures` is later than the moment that `latest` finds, and where the rows reach that moment, one of them is at it
abbrev pub LatestIsOfLastRow : RunModel → RunModel → Type 0
LatestIsOfLastRow r s =
    (files others : FileMap) (j : JourneyModel) (until last : ℕ) (query : Query) (latest : Moment) (rows : List DepartureRow)
    → AskBoth files others j (Latest until) (Departures until last) r s → EndWell r s → r.report.query ≡ Some query → query.source.0 ≢ query.target.0
    → j.start ≤ last → r.report.latest ≡ Some latest → s.report.departures ≡ Some rows → IsOfLastRow last rows latest

-- a fault of a graph file that `check` ends with is the first of the file's text, by line
abbrev pub FaultIsFirst : Limits → RunModel → Type 0
FaultIsFirst limits r =
    (files : FileMap) (j : JourneyModel) (path text : List ℕ) (p : Problem) (fault : TextFault)
    → IsUntroubled files r → job_of r.words ≡ Ok (Ask j (CheckGraph path)) → IsProblem limits files j p
    → file_at files path ≡ Some text → length text ≤ limits.bytes → r.report.fault ≡ Some (GraphFile fault)
    → IsFirstFaultOf p.timetable.network p.timetable.names p.source.0 p.target.0 j.start text fault

-- whatever both runs ask, they agree
pub record Agree (limits : Limits) (r s : RunModel) : Type 0 where
  pub alike : EndAlike r s
  pub forms : FormsEndAlike limits r s
  pub saved : SavingKeeps limits r
  pub first_line : FirstLineIsItsRow limits r
  pub accepted : PlanIsAccepted limits r s
  pub replayed : PlanIsReplayed limits r s
  pub punctual : PunctualIsAccepted limits r s
  pub punctual_replayed : PunctualIsReplayed limits r s
  pub certified : CertificateIsAccepted limits r s
  pub leave : LeaveAlike limits r s
  pub by_worst : LeaveByWorst r s
  pub never : NeverLeave r s
  pub search : SearchAlike limits r s
  pub query : ShareQuery r s
  pub within : CertificateIsWithin limits r s
  pub greatest : CertificateIsGreatest r s
  pub strategy : ShareStrategy limits r s
  pub promise : PromiseIsSure r
  pub worst : WorstIsKept limits r
  pub later : LaterIsNoWorse r s
  pub more : MoreIsNoLater limits r s
  pub more_latest : MoreLeavesNoSooner limits r s
  pub more_plans : MorePlansNoWorse limits r s
  pub order_worst : OrderKeepsWorst limits r s
  pub order_plans : OrderKeepsPlans limits r s
  pub last_row : LatestIsOfLastRow r s
  pub row_of_plan : RowIsOfPlan limits r s
  pub cut_row_of_plan : CutRowIsOfPlan r s
  pub reach_latest : ReachIsLatest limits r s
  pub reach_departures : ReachIsFirstDeparture limits r s
  pub reach_later : LaterReachesMore r s
  pub sample : SampleIsPlan r s
  pub first_fault : FaultIsFirst limits r
