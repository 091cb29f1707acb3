-- The answer about the trip by a graph, as the delays come.
use Rattle.std.specs.Prelude.{◌≡◌, ℕ, List, [], Result, Ok, Err}
use Rattle.plan_model.specs.Strategy.{IsSafeFor}
use Rattle.plan_graph.specs.{declared.PlanGraph.PlanGraph, Unfold.unfold_plan}
use Rattle.graph_text.specs.declared.Head.{Head}
use Rattle.trip_replay.specs.{declared.{Trace.Trace, ReplayFault.ReplayFault}, Walk.{walk, IsSafeAnswer}}
use Rattle.journey_model.specs.declared.{faults.Fault.{Fault, TheVariants.{Replay, NoMemory}}, problem.Problem.Problem}
use Rattle.journey_report.specs.{Findings.{Findings, replay_findings}, AnswerTexts.trace_text}
use Rattle.trip_replay.specs.declared.ReplayFault.TheVariants as replay

-- a fault of a trip as one of the run
abbrev pub replay_as : ReplayFault → Fault
replay_as (replay.NotADelay number) = Replay (replay.NotADelay number)
replay_as (replay.TooFew ridden) = Replay (replay.TooFew ridden)
replay_as (replay.TooMany ridden) = Replay (replay.TooMany ridden)
replay_as (replay.Stuck place moment) = Replay (replay.Stuck place moment)
replay_as replay.NoMemory = NoMemory

-- the trip by a graph with these delays
abbrev pub trip_by : Problem → Head → PlanGraph → List ℕ → Result Trace ReplayFault
trip_by p head graph late = walk p.timetable.network (unfold_plan graph p.timetable.network head.query) late []

-- if the graph unfolds to a safe strategy, the trip is never stuck, and arrives by the deadline
abbrev pub IsSafeTrip : Problem → Head → PlanGraph → Result Trace ReplayFault → Type 0
IsSafeTrip p head graph trip = IsSafeFor p.timetable.network head.query (unfold_plan graph p.timetable.network head.query) → IsSafeAnswer head.query.deadline.0 trip

-- the answer of `replay`: the trip by a graph
pub record AnswersReplay (p : Problem) (late : List ℕ) (found : Findings) (text : List ℕ) (head : Head) (graph : PlanGraph) : Type 0 where
  pub trace : Trace
  pub trip : trip_by p head graph late ≡ Ok trace
  pub safe : IsSafeTrip p head graph (Ok trace)
  pub found_is : found ≡ replay_findings head.query graph trace
  pub text_is : text ≡ trace_text p.timetable.network p.timetable.names p.target.0 trace

-- the fault is that of the trip by a graph
pub record IsTripFault (p : Problem) (late : List ℕ) (fault : Fault) (head : Head) (graph : PlanGraph) : Type 0 where
  pub stop : ReplayFault
  pub fault_is : fault ≡ Replay stop
  pub trip : trip_by p head graph late ≡ Err stop
  pub safe : IsSafeTrip p head graph (Err stop)
