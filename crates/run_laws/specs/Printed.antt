-- What a graph file that `plan` printed comes to.
use Rattle.std.specs.Prelude.{◌≡◌, ℕ, ◌≤◌, List, None, Some, Ok}
use Rattle.file_ports.specs.Ports.{FileMap, file_at}
use Rattle.csv_rows.specs.declared.limits.Limits.{Limits}
use Rattle.interval_fixed.specs.Interval.{Interval}
use Rattle.plan_graph.specs.{declared.PlanGraph.PlanGraph, Unfold.unfold_plan}
use Rattle.graph_text.specs.declared.Head.{Head}
use Rattle.trip_replay.specs.Late.{Arrives}
use Rattle.journey_model.specs.declared.problem.Problem.{Problem}
use Rattle.journey_report.specs.Findings.{Findings}
use Rattle.journey_problem.specs.GraphFiles.{graph_in}
use Rattle.meat_engine.specs.Ends.{EndsByGraphFile}

-- the file has a graph, by which the trip arrives by the deadline where each connection is so late; with the delays on the way
-- `replay` ends with 0
pub record ArrivesByFile (limits : Limits) (files : FileMap) (start : ℕ) (path : List ℕ) (p : Problem) (late : ℕ → ℕ) : Type 0 where
  pub head : Head
  pub graph : PlanGraph
  pub reads : graph_in limits p start None (file_at files path) ≡ Ok (head, graph)
  pub trip : Arrives p.timetable.network head.query.deadline.0 (unfold_plan graph p.timetable.network head.query) late
  pub ends : (status : ℕ) → EndsByGraphFile limits files start path trip.delays p status → status ≡ 0

-- what a check finds has the upper bound of what was planned, and no lesser lower one
pub record KeepsUpperBound (planned checked : Findings) : Type 0 where
  pub reported : Interval
  pub found : Interval
  pub planned_is : planned.bounds ≡ Some reported
  pub checked_is : checked.bounds ≡ Some found
  pub upper : found.hi ≡ reported.hi
  pub lower : reported.lo ≤ found.lo
