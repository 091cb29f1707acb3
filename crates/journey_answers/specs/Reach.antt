-- The answer about the places from which one can reach the target of a journey.
use Rattle.std.specs.Prelude.{◌≡◌, ℕ, List, All}
use Rattle.plan_model.specs.{declared.model.Query.Query, Network.NetworkModel, Gates.{FitGates, extended_by}}
use Rattle.value_laws.specs.declared.MeanSpan.{MeanSpan}
use Rattle.meat_scan.specs.ScanResult.{ScanResult}
use Rattle.departure_table.specs.{declared.reach_rows.ReachRow.ReachRow, Reach.{IsReach, IsFoundAtGate, places_of}}
use Rattle.journey_model.specs.declared.{faults.Fault.Fault, problem.Problem.Problem}
use Rattle.journey_report.specs.{DepartureTexts.reach_text, Findings.{Findings, reach_findings}}
use Rattle.journey_answers.specs.Departures.{IsRuled, added_query}

-- the bounds are those that the rules give in the network with a gate for each place
pub record IsReachByRules (m : NetworkModel) (query : Query) (rows : List ReachRow) : Type 0 where
  pub fit : FitGates m (places_of m)
  pub found : ScanResult MeanSpan
  pub ruled : IsRuled (extended_by m (places_of m)) (added_query m query) found
  pub looked : All (IsFoundAtGate (extended_by m (places_of m)) m query found) rows

-- the rows of the places from which one can reach the target, from the start of the query on, with the bounds that the rules of the scan give
pub record AreReached (m : NetworkModel) (query : Query) (rows : List ReachRow) : Type 0 where
  pub reach : IsReach m query query.start.0 rows
  pub by_rules : IsReachByRules m query rows

-- the answer of `reach`: the rows; there may be none
abbrev pub AnswersReach : Problem → Query → Findings → List ℕ → Type 0
AnswersReach p query found text =
    (rows : List ReachRow) × (found ≡ reach_findings query rows) × AreReached p.timetable.network query rows × (text ≡ reach_text p.timetable.names query rows)

-- why it has no answer, unless there was no memory: it always has one
abbrev pub FailsReach : Fault → Type 0
FailsReach fault = ⊥
