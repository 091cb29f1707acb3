-- What `sample` answers: the plan of a journey over a timetable that is made.
use Rattle.std.specs.Prelude.{◌≡◌, ℕ, List, Option, None, Some, codes}
use Rattle.file_ports.specs.Ports.{FileMap}
use Rattle.csv_rows.specs.declared.limits.Limits.{Limits}
use Rattle.plan_model.specs.{declared.model.{Moment.Moment, Query.Query}, Network.count}
use Rattle.interval_fixed.specs.Interval.{Interval}
use Rattle.plan_graph.specs.declared.PlanGraph.{PlanGraph}
use Rattle.decision_graph.specs.Planned.{IsPlanned}
use Rattle.feed_maker.specs.MadeTables.{made, SameFolder}
use Rattle.command_line.specs.Jobs.{JourneyModel, FeedFolder, Plan}
use Rattle.journey_model.specs.{declared.{faults.Fault.Fault, problem.Problem.Problem}, Faults.unread_input, Sites.NamedParts}
use Rattle.journey_problem.specs.Problems.{InProblem}
use Rattle.journey_answers.specs.Answers.{InQuery}
use Rattle.meat_engine.specs.Asks.{FailsJourney}
use Rattle.journey_report.specs.{Findings.{Findings, sample_findings}, AnswerTexts.{leg_count, sample_text}}

-- from the hub H0 to the hub H5, from 2024-06-03T08:00:01 on, in a window of 24 hours
abbrev pub sample_journey : JourneyModel
sample_journey = record {
  timetable = FeedFolder (codes "feed") 24;
  delays = codes "delays.csv";
  from = Some (codes "H0");
  to = codes "H5";
  start = 1717401601;
}

-- the percentage of its deadline
abbrev pub sample_alpha : ℕ
sample_alpha = 200

-- the findings and the text are those of a plan, how many connections the window has and how many legs the graph has
abbrev pub AnswersSampled : ℕ → Problem → Findings → List ℕ → Query → Moment → Type 0
AnswersSampled size p found text query worst =
    (graph : PlanGraph) × (bounds : Interval) × (found ≡ sample_findings query worst graph bounds (count p.timetable.network))
    × IsPlanned p.timetable.network query graph bounds × (text ≡ sample_text size (count p.timetable.network) (leg_count graph) bounds)

abbrev pub IsSampled : ℕ → Problem → Findings → List ℕ → Type 0
IsSampled size p found text = InQuery p sample_journey.start sample_alpha (AnswersSampled size p found text)

-- the files of the made timetable are some of which this holds
abbrev pub OverMade : ℕ → (FileMap → Type 0) → Type 0
OverMade size P = (files : FileMap) × SameFolder (made size) files × P files

abbrev pub AnswersSample : Limits → ℕ → Findings → List ℕ → Type 0
AnswersSample limits size found text = OverMade size (λ files. InProblem (Some files) limits sample_journey (λ p. IsSampled size p found text))

-- why a sample has no answer, unless there was no memory: its plan over the made files has none, and no file failed to be read
abbrev pub FailsSample : Limits → ℕ → Option NamedParts → Fault → Type 0
FailsSample limits size known fault =
    (unread_input fault ≡ None) × OverMade size (λ files. FailsJourney (Some files) limits sample_journey (Plan sample_alpha) known fault)
