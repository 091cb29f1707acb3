-- A row of `departures` beside the plan of one who sets out by it.
use Rattle.std.specs.Prelude.{◌≡◌, ℕ, ◌≤◌, List, Some, Ok}
use Rattle.file_ports.specs.Ports.{FileMap}
use Rattle.csv_rows.specs.declared.limits.Limits.{Limits}
use Rattle.interval_fixed.specs.Interval.{Interval}
use Rattle.plan_model.specs.declared.model.Query.{Query}
use Rattle.departure_table.specs.{Departures.first_row_by, declared.DepartureRow.DepartureRow}
use Rattle.command_line.specs.Jobs.{JourneyModel, CutFile, Ask, Plan, Departures, job_of}
use Rattle.journey_model.specs.declared.problem.Problem.{Problem}
use Rattle.journey_problem.specs.{Paths.AgreeFor, Problems.IsProblem}
use Rattle.run_laws.specs.{Runs.{RunModel, IsUntroubled}, TwoRuns.EndWell}

-- both problems have one network, one source and one target
pub record IsSameTrip (p q : Problem) : Type 0 where
  pub network : q.timetable.network ≡ p.timetable.network
  pub source : q.source.0 ≡ p.source.0
  pub target : q.target.0 ≡ p.target.0

-- over one network, the first row of `departures` by the start of a plan with the same deadline has the upper bound of the plan
abbrev pub RowIsOfPlan : Limits → RunModel → RunModel → Type 0
RowIsOfPlan limits r s =
    (files others : FileMap) (j i : JourneyModel) (until last alpha : ℕ) (p q : Problem) (query : Query) (rows : List DepartureRow) (row : DepartureRow) (bounds : Interval)
    → IsUntroubled files r → IsUntroubled others s → job_of r.words ≡ Ok (Ask j (Departures until last)) → job_of s.words ≡ Ok (Ask i (Plan alpha)) → EndWell r s
    → IsProblem limits files j p → IsProblem limits others i q → IsSameTrip p q → j.start ≤ i.start → i.start ≤ last
    → r.report.departures ≡ Some rows → first_row_by i.start rows ≡ Some row
    → s.report.query ≡ Some query → query.deadline.0 ≡ until → s.report.bounds ≡ Some bounds → row.bounds.hi ≡ bounds.hi

-- the same journey from another start
abbrev pub starting : JourneyModel → ℕ → JourneyModel
starting j start = record j { start = start }

-- so it is over a cut file, whose network is one for each start
abbrev pub CutRowIsOfPlan : RunModel → RunModel → Type 0
CutRowIsOfPlan r s =
    (files others : FileMap) (j : JourneyModel) (cut : List ℕ) (start until last alpha : ℕ) (query : Query) (rows : List DepartureRow) (row : DepartureRow) (bounds : Interval)
    → j.timetable ≡ CutFile cut → IsUntroubled files r → IsUntroubled others s → AgreeFor j files others
    → job_of r.words ≡ Ok (Ask j (Departures until last)) → job_of s.words ≡ Ok (Ask (starting j start) (Plan alpha)) → EndWell r s
    → j.start ≤ start → start ≤ last → r.report.departures ≡ Some rows → first_row_by start rows ≡ Some row
    → s.report.query ≡ Some query → query.deadline.0 ≡ until → s.report.bounds ≡ Some bounds → row.bounds.hi ≡ bounds.hi
