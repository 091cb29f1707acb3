-- What is read of a graph file, and its first fault.
use Rattle.std.specs.Prelude.{◌≡◌, ℕ, List, Option, None, Result, Ok, Err, IfSome}
use Rattle.plan_model.specs.Results.{and_then}
use Rattle.file_ports.specs.Ports.{FileMap, file_at}
use Rattle.csv_rows.specs.declared.limits.Limits.{Limits}
use Rattle.plan_graph.specs.{declared.PlanGraph.PlanGraph, Tidy.IsFit}
use Rattle.graph_text.specs.{declared.{Head.Head, reader.TextFault.TextFault}, Asked.IsHeadOf, Reading.graph_of}
use Rattle.journey_model.specs.{declared.{faults.{Input.Input, Fault.{Fault, TheVariants.{GraphFile, NoMemory}}}, problem.Problem.Problem}, Faults.unread_input}
use Rattle.journey_problem.specs.Files.{bytes_of, IsOfInput}
use Rattle.graph_text.specs.declared.reader.TextFault.TheVariants as text
use Rattle.journey_model.specs.declared.faults.Input.TheVariants as input

-- a fault of a graph's text as one of the run
abbrev pub text_as : TextFault → Fault
text_as (text.Row line) = GraphFile (text.Row line)
text_as (text.UnknownName line) = GraphFile (text.UnknownName line)
text_as (text.NotRising line) = GraphFile (text.NotRising line)
text_as (text.NoLeg line) = GraphFile (text.NoLeg line)
text_as (text.OtherQuery line) = GraphFile (text.OtherQuery line)
text_as text.NoMemory = NoMemory

abbrev pub graph_as : Result (Head × PlanGraph) TextFault → Result (Head × PlanGraph) Fault
graph_as (Ok found) = Ok found
graph_as (Err fault) = Err (text_as fault)

-- the head and the graph of a graph file, or its first fault
abbrev pub graph_in : Limits → Problem → ℕ → Option Input → Option (List ℕ) → Result (Head × PlanGraph) Fault
graph_in limits p start unread file =
    and_then (bytes_of limits.bytes input.Graph unread file) (λ bytes. graph_as (graph_of bytes p.timetable.network p.timetable.names p.source.0 p.target.0 start))

-- these are the head and the graph of the graph file of this path, if the files are known; the graph fits the network, and
-- the head is of a journey that starts then
pub record IsGraphFile (contents : Option FileMap) (limits : Limits) (start : ℕ) (path : List ℕ) (p : Problem) (head : Head) (graph : PlanGraph) : Type 0 where
  pub reads : IfSome contents (λ files. graph_in limits p start None (file_at files path) ≡ Ok (head, graph))
  pub fit : IsFit p.timetable.network head.query graph
  pub head_is : IsHeadOf p.source.0 p.target.0 start head

-- this holds of the head and the graph of the graph file
abbrev pub InGraphFile : Option FileMap → Limits → ℕ → List ℕ → Problem → (Head → PlanGraph → Type 0) → Type 0
InGraphFile contents limits start path p P = (head : Head) × (graph : PlanGraph) × IsGraphFile contents limits start path p head graph × P head graph

-- the first fault of the graph file is this one, if no file but that of the fault is unread
abbrev pub FailsGraph : Option FileMap → Limits → ℕ → List ℕ → Problem → Fault → Type 0
FailsGraph contents limits start path p fault =
    IsOfInput input.Graph fault × IfSome contents (λ files. graph_in limits p start (unread_input fault) (file_at files path) ≡ Err fault)
