-- What `reach` finds for each place, against what `latest` and `departures` find for a journey from there.
use Rattle.std.specs.Prelude.{◌≡◌, ◌≢◌, ◌⊎◌, ℕ, ◌≤◌, List, Option, Some, None, MatchOption, All, Ok}
use Rattle.file_ports.specs.Ports.{FileMap}
use Rattle.csv_rows.specs.declared.limits.Limits.{Limits}
use Rattle.departure_table.specs.{declared.{DepartureRow.DepartureRow, reach_rows.ReachRow.ReachRow}, Reach.{BeginsWithBounds, row_of_place}}
use Rattle.command_line.specs.Jobs.{JourneyModel, AskModel, Ask, Departures, Latest, Reach, job_of}
use Rattle.journey_model.specs.declared.problem.Problem.{Problem}
use Rattle.journey_problem.specs.{Paths.AgreeFor, Problems.IsProblem}
use Rattle.run_laws.specs.Runs.{RunModel, IsUntroubled}

-- the journey, but from the stop of this name
abbrev pub from_stop : JourneyModel → List ℕ → JourneyModel
from_stop j name = record j { from = Some name }

-- two untroubled runs, over files that agree at the paths of a journey: the first asks `reach` about it by a deadline and ends without a
-- fault, with these rows; the second asks something about another journey
pub record ReachesBoth (files others : FileMap) (j other : JourneyModel) (until : ℕ) (ask : AskModel) (rows : List ReachRow) (r s : RunModel) : Type 0 where
  pub first : IsUntroubled files r
  pub second : IsUntroubled others s
  pub agree : AgreeFor j files others
  pub first_asks : job_of r.words ≡ Ok (Ask j (Reach until))
  pub second_asks : job_of s.words ≡ Ok (Ask other ask)
  pub no_fault : r.report.fault ≡ None
  pub reach : r.report.reach ≡ Some rows

-- the row of a place has the moment that `latest` from there finds, and there is a row exactly if `latest` ends with 0
abbrev pub ReachIsLatest : Limits → RunModel → RunModel → Type 0
ReachIsLatest limits r s =
    (files others : FileMap) (j : JourneyModel) (name : List ℕ) (until : ℕ) (p : Problem) (rows : List ReachRow)
    → ReachesBoth files others j (from_stop j name) until (Latest until) rows r s → IsProblem limits files (from_stop j name) p → p.source.0 ≢ p.target.0
    → MatchOption (row_of_place p.source.0 rows) (s.report.status.0 ≡ 1) (λ row. (s.report.status.0 ≡ 0) × (s.report.latest ≡ Some row.latest)) ⊎ (s.report.status.0 ≡ 9)

-- the row of a place has the bounds of the first row that `departures` from there finds
abbrev pub ReachIsFirstDeparture : Limits → RunModel → RunModel → Type 0
ReachIsFirstDeparture limits r s =
    (files others : FileMap) (j : JourneyModel) (name : List ℕ) (until last : ℕ) (p : Problem) (rows : List ReachRow) (departures : List DepartureRow)
    → ReachesBoth files others j (from_stop j name) until (Departures until last) rows r s → IsProblem limits files (from_stop j name) p → p.source.0 ≢ p.target.0
    → j.start ≤ last → s.report.fault ≡ None → s.report.departures ≡ Some departures
    → (row : ReachRow) × (row_of_place p.source.0 rows ≡ Some row) × BeginsWithBounds row departures

-- the place of a row has a row too, whose moment is no earlier
abbrev pub KeepsRow : List ReachRow → ReachRow → Type 0
KeepsRow more row = (other : ReachRow) × (row_of_place row.place.0 more ≡ Some other) × (row.latest.0 ≤ other.latest.0)

-- a later deadline loses no row, and makes no moment earlier
abbrev pub LaterReachesMore : RunModel → RunModel → Type 0
LaterReachesMore r s =
    (files others : FileMap) (j : JourneyModel) (until later : ℕ) (rows more : List ReachRow)
    → ReachesBoth files others j j until (Reach later) rows r s → s.report.fault ≡ None → s.report.reach ≡ Some more → until ≤ later → All (KeepsRow more) rows
