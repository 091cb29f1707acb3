-- The answers about the strategies of a journey.
use Rattle.std.specs.Prelude.{◌≡◌, ℕ, ◌<◌, ◌≤◌, List, length, None, Some}
use Rattle.plan_model.specs.{declared.model.{Moment.Moment, Query.Query}, Network.NetworkModel, Strategy.{IsLeastWorst, deadline_of}, Bounds.end_of_time}
use Rattle.plan_model.specs.Bounds.{last_start}
use Rattle.interval_fixed.specs.Interval.{Interval}
use Rattle.plan_graph.specs.declared.{ExpandedGraph.ExpandedGraph, PlanGraph.PlanGraph}
use Rattle.decision_graph.specs.Planned.{IsExpanded, IsPlanned}
use Rattle.graph_text.specs.{declared.Head.Head, GraphRows.IsTextOf, GraphTexts.{expanded_text, plan_text}}
use Rattle.printed_rows.specs.Records.{place_name}
use Rattle.journey_model.specs.{declared.{faults.Fault.{Fault, TheVariants.NoSafe}, problem.Problem.Problem}, Sites.last_printable, Faults.OrNoMemory}
use Rattle.journey_report.specs.{Findings.{Findings, safe_findings, expand_findings, plan_findings}, AnswerTexts.safe_text}

-- this is the least worst arrival of the query
abbrev pub IsWorst : NetworkModel → Query → Moment → Type 0
IsWorst network query worst = IsLeastWorst network query.source.0 query.target.0 query.start.0 (Some worst)

-- this is the query of a journey that starts then, by a percentage for the deadline: it goes from the source of the problem to
-- its target, from the start on; the least worst arrival is this one, and the deadline follows from it
pub record IsQueryOf (p : Problem) (start alpha : ℕ) (query : Query) (worst : Moment) : Type 0 where
  pub source : query.source.0 ≡ p.source.0
  pub target : query.target.0 ≡ p.target.0
  pub start_is : query.start.0 ≡ start
  pub least : IsWorst p.timetable.network query worst
  pub deadline : query.deadline.0 ≡ deadline_of query.start.0 worst.0 alpha

-- this holds of the query of the journey and of its least worst arrival
abbrev pub InQuery : Problem → (start alpha : ℕ) → (Query → Moment → Type 0) → Type 0
InQuery p start alpha P = (query : Query) × (worst : Moment) × IsQueryOf p start alpha query worst × P query worst

-- the head of a graph's text
abbrev pub head_of : Query → Interval → Head
head_of q bounds = record { query = q; bounds = bounds }

-- the answer of `safe`: the least worst arrival and the deadline
abbrev pub AnswersSafe : Problem → Findings → List ℕ → Query → Moment → Type 0
AnswersSafe p found text query worst =
    (found ≡ safe_findings query worst)
    × (text ≡ safe_text (place_name p.timetable.names query.source.0) (place_name p.timetable.names query.target.0) query worst)

-- the answer of `expand`: a decision graph by ride, with its bounds
abbrev pub AnswersExpand : Problem → Findings → List ℕ → Query → Moment → Type 0
AnswersExpand p found text query worst =
    (graph : ExpandedGraph) × (bounds : Interval) × (found ≡ expand_findings query worst graph bounds)
    × IsExpanded p.timetable.network query graph bounds × (text ≡ expanded_text p.timetable.network p.timetable.names (head_of query bounds) graph)

-- the answer of `plan`: a decision graph by place, with its bounds; the text is that of a graph file, row by row
abbrev pub AnswersPlan : Problem → Findings → List ℕ → Query → Moment → Type 0
AnswersPlan p found text query worst =
    (graph : PlanGraph) × (bounds : Interval) × (found ≡ plan_findings query worst graph bounds)
    × IsPlanned p.timetable.network query graph bounds × (text ≡ plan_text p.timetable.network p.timetable.names (head_of query bounds) graph)
    × IsTextOf p.timetable.network p.timetable.names (head_of query bounds) graph text

-- no strategy always reaches the target
abbrev pub HasNoSafe : Problem → ℕ → Type 0
HasNoSafe p start = IsLeastWorst p.timetable.network p.source.0 p.target.0 start None

-- the fault is that no strategy is safe, and none is
abbrev pub IsNoSafe : Problem → ℕ → Fault → Type 0
IsNoSafe p start fault = (fault ≡ NoSafe) × HasNoSafe p start

-- why there is no answer: no strategy is safe; or there was no memory
abbrev pub IsNoAnswer : Problem → ℕ → Fault → Type 0
IsNoAnswer p start = OrNoMemory (IsNoSafe p start)

-- its places are the network's, and its moments have texts
pub record IsPrintable (network : NetworkModel) (query : Query) (worst : Moment) : Type 0 where
  pub source : query.source.0 < length network.change
  pub target : query.target.0 < length network.change
  pub start : query.start.0 ≤ last_start
  pub order : query.start.0 ≤ worst.0
  pub early : worst.0 < end_of_time
  pub deadline : worst.0 ≤ query.deadline.0
  pub late : query.deadline.0 ≤ last_printable
