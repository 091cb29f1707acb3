-- The answer about the least chance of an arrival after a promised moment.
use Rattle.std.specs.Prelude.{◌≡◌, ℕ, List, ◌++◌}
use Rattle.plan_model.specs.declared.model.{Moment.Moment, Query.Query}
use Rattle.interval_fixed.specs.Interval.{Interval}
use Rattle.plan_graph.specs.{declared.PlanGraph.PlanGraph, Unfold.unfold_plan}
use Rattle.graph_text.specs.{GraphTexts.plan_text, GraphRows.IsTextOf}
use Rattle.graph_score.specs.Scores.{IsScored}
use Rattle.late_chance.specs.Punctual.{IsPunctual}
use Rattle.decision_graph.specs.LeastChances.{IsSeenLater}
use Rattle.journey_model.specs.declared.problem.Problem.{Problem}
use Rattle.journey_answers.specs.Answers.{head_of}
use Rattle.journey_report.specs.{Findings.{Findings, punctual_findings}, AnswerTexts.punctual_row}

-- the text of a graph with its chance is the row of the promise and the text of the graph, which is that of a graph file
pub record IsPunctualText (p : Problem) (promise : ℕ) (query : Query) (graph : PlanGraph) (chance bounds : Interval) (text : List ℕ) : Type 0 where
  pub rows : text ≡ punctual_row promise chance ++ plan_text p.timetable.network p.timetable.names (head_of query bounds) graph
  pub reads_back : IsTextOf p.timetable.network p.timetable.names (head_of query bounds) graph (plan_text p.timetable.network p.timetable.names (head_of query bounds) graph)

-- the answer of `punctual`: a decision graph by place with bounds of its chance to arrive after the promised moment, which is the least, and of its
-- expected arrival
abbrev pub AnswersPunctual : Problem → ℕ → Findings → List ℕ → Query → Moment → Type 0
AnswersPunctual p promise found text query worst =
    (graph : PlanGraph) × (chance : Interval) × (bounds : Interval) × (found ≡ punctual_findings query worst graph bounds chance)
    × IsPunctual p.timetable.network query promise graph chance × IsSeenLater p.timetable.network query promise graph chance
    × IsScored p.timetable.network query (unfold_plan graph p.timetable.network query) bounds × IsPunctualText p promise query graph chance bounds text
