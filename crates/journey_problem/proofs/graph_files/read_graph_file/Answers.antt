-- The head and the graph of a graph file, from its bytes.
use Rattle.journey_problem.proofs.Common.{arith, file_at, IfSome_then, IfOk-weaker, ◌≡◌, ℕ, List, Option, None, Result, Ok, Err, ◌≢◌, IfErr, IfOk, Limits, Input, Fault}
use Rattle.journey_problem.proofs.{Common.{NoMemory, unread_input, Problem, bytes_of, Finds}, Causes.causes-quiet, FeedSteps.none_unread_of}
use Rattle.journey_problem.specs.GraphFiles.{graph_as, graph_in}
use Rattle.graph_text.proofs.Accepted.{graph_deadline}
use Rattle.graph_text.specs.{declared.Head.Head, Reading.graph_of}
use Rattle.plan_graph.specs.declared.PlanGraph.{PlanGraph}
use Rattle.journey_model.specs.declared.faults.Input.TheVariants as input
use Rattle.journey_problem.proofs.graph_files.read_graph_file.Goals as goal

module _ (limits : Limits) (p : Problem) (start : ℕ) (file : Option (List ℕ)) (bytes text : List ℕ)
    (there : bytes_of limits.bytes input.Graph None file ≡ Ok bytes) (same : text ≡ bytes) where
  -- what is read of the bytes of the file is read of the file
  read_of : (unread : Option Input) → unread ≡ None → graph_in limits p start unread file ≡ graph_as (graph_of text p.timetable.network p.timetable.names p.source.0 p.target.0 start)
  read_of unread none = grind arith

  pub graph_finds : (r : Result (Head × PlanGraph) Fault) → IfOk r (λ f. graph_of text p.timetable.network p.timetable.names p.source.0 p.target.0 start ≡ Ok (f.0, f.1))
      → IfErr r (λ fault. fault ≢ NoMemory → graph_as (graph_of text p.timetable.network p.timetable.names p.source.0 p.target.0 start) ≡ Err fault)
      → IfErr r (λ fault. unread_input fault ≡ None) → Finds (λ f. (f.0, f.1)) (λ unread. graph_in limits p start unread file) r
  graph_finds r ok err none = grind (arith, read_of)

pub returns-clause-graph : goal.returns-clause-graph
returns-clause-graph g c = IfSome_then (g.F.Files.state c.args.files.now).files c.in_ok-bytes.ensures.bytes (λ m there.
    graph_finds c.args.limits.now c.args.problem.now c.args.start.0 (file_at m c.args.path.now) c.in_ok-bytes.bytes.items c.as_slice.result.now there c.as_slice.ensures.value
    c.graph_of_bytes.result c.graph_of_bytes.ensures.graph c.graph_of_bytes.ensures.fault c.graph_of_bytes.ensures.read)

pub returns-clause-fit : goal.returns-clause-fit
returns-clause-fit g c = let p = c.args.problem.now in IfOk-weaker c.graph_of_bytes.result _ _
    (λ f read. (c.read_fits.ensures p.timetable.network p.timetable.names c.as_slice.result.now p.source.0 p.target.0 c.args.start.0 f.0 f.1 read).0) c.graph_of_bytes.ensures.graph

pub returns-clause-head : goal.returns-clause-head
returns-clause-head g c = let p = c.args.problem.now in IfOk-weaker c.graph_of_bytes.result _ _
    (λ f read. (c.read_fits.ensures p.timetable.network p.timetable.names c.as_slice.result.now p.source.0 p.target.0 c.args.start.0 f.0 f.1 read).1) c.graph_of_bytes.ensures.graph

pub returns-clause-deadline : goal.returns-clause-deadline
returns-clause-deadline g c = let p = c.args.problem.now in IfOk-weaker c.graph_of_bytes.result _ _
    (λ f read. graph_deadline p.timetable.network p.timetable.names p.source.0 p.target.0 c.args.start.0 c.as_slice.result.now f.0 f.1 read) c.graph_of_bytes.ensures.graph

pub returns-clause-own : goal.returns-clause-own
returns-clause-own g c = none_unread_of input.Graph c.graph_of_bytes.result c.graph_of_bytes.ensures.read

pub returns-clause-causes : goal.returns-clause-causes
returns-clause-causes g c = causes-quiet c.in_ok-bytes.bytes _ c.in_ok-bytes.ensures.causes c.graph_of_bytes.ensures.read
