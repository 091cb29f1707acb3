-- The answer about a graph: bounds on the expected arrival of its strategy.
use Rattle.std.specs.Prelude.{◌≡◌, List, ℕ}
use Rattle.plan_model.specs.declared.model.{Moment.Moment, PlaceId.PlaceId}
use Rattle.interval_fixed.specs.Interval.{Interval}
use Rattle.plan_graph.specs.{declared.PlanGraph.PlanGraph, Unfold.unfold_plan}
use Rattle.graph_score.specs.Scores.{IsScored, IsUnsafe}
use Rattle.graph_text.specs.declared.Head.{Head}
use Rattle.printed_rows.specs.Records.{place_name}
use Rattle.journey_model.specs.declared.{faults.Fault.{Fault, TheVariants.Unsafe}, problem.Problem.Problem}
use Rattle.journey_report.specs.{Findings.{Findings, score_findings}, AnswerTexts.encloses_text}

-- the answer of `check`: the bounds of a graph, whose strategy is safe for its own query
pub record IsEnclosed (p : Problem) (found : Findings) (text : List ℕ) (head : Head) (graph : PlanGraph) : Type 0 where
  pub bounds : Interval
  pub scored : IsScored p.timetable.network head.query (unfold_plan graph p.timetable.network head.query) bounds
  pub found_is : found ≡ score_findings head.query graph bounds
  pub text_is : text ≡ encloses_text (place_name p.timetable.names p.source.0) (place_name p.timetable.names p.target.0) head.query bounds

-- the fault is that a graph is not safe, with the first place and moment at which one may fail
abbrev pub IsUnsafeGraph : Problem → Fault → Head → PlanGraph → Type 0
IsUnsafeGraph p fault head graph =
    (place : PlaceId) × (moment : Moment) × (fault ≡ Unsafe place moment)
    × IsUnsafe p.timetable.network head.query (unfold_plan graph p.timetable.network head.query) place.0 moment.0
