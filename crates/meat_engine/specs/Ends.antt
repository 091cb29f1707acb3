-- The status that a question about a problem ends with.
use Rattle.std.specs.Prelude.{◌≡◌, ◌⊎◌, ℕ, ◌≤◌, List, Option, None, Some, Result, Ok, Err}
use Rattle.file_ports.specs.Ports.{FileMap, file_at}
use Rattle.csv_rows.specs.declared.limits.Limits.{Limits}
use Rattle.plan_model.specs.{Network.NetworkModel, Tree.Tree, Strategy.{Reaches, IsSafeFor}, declared.model.Query.Query}
use Rattle.lower_proof.specs.{declared.LowerBounds.LowerBounds, Certificates.{IsAccepted, IsLastFault}}
use Rattle.plan_graph.specs.{declared.PlanGraph.PlanGraph, Unfold.unfold_plan}
use Rattle.graph_text.specs.declared.Head.{Head}
use Rattle.trip_replay.specs.declared.{Trace.Trace, ReplayFault.ReplayFault}
use Rattle.journey_model.specs.{declared.{faults.Fault.Fault, problem.Problem.Problem}, Faults.status_of}
use Rattle.journey_problem.specs.{Files.bytes_of, GraphFiles.graph_in, CertificateFiles.{IsCertificateFile, FailsFile}}
use Rattle.journey_answers.specs.{Trips.trip_by, Departures.{SafeOf, HasSafeFor}}
use Rattle.journey_model.specs.declared.faults.Input.TheVariants as input

-- some strategy always reaches the target
abbrev pub HasSafe : NetworkModel → (source target start : ℕ) → Type 0
HasSafe network source target start = (tree : Tree) × Reaches network source target start tree

-- 0 if this holds, and 1 if it does not
abbrev pub EndsBy : Type 0 → ℕ → Type 0
EndsBy safe status = ((status ≡ 0) × safe) ⊎ ((status ≡ 1) × ¬ safe)

-- 0 if some strategy of the problem is safe, and 1 if none is
abbrev pub EndsBySafety : Problem → ℕ → ℕ → Type 0
EndsBySafety p start status = EndsBy (HasSafe p.timetable.network p.source.0 p.target.0 start) status

-- 0 if the walk has no fault, and 11 if it has one
abbrev pub EndsByWalk : Result Trace ReplayFault → ℕ → Type 0
EndsByWalk trip status =
    ((trace : Trace) × (trip ≡ Ok trace) × (status ≡ 0)) ⊎ ((stop : ReplayFault) × (trip ≡ Err stop) × (status ≡ 11))

-- if the graph file reads, as the walk by its graph says; and otherwise the status of its fault
abbrev pub EndsByGraphFile : Limits → FileMap → ℕ → List ℕ → List ℕ → Problem → ℕ → Type 0
EndsByGraphFile limits files start path late p status =
    ((head : Head) × (graph : PlanGraph) × (graph_in limits p start None (file_at files path) ≡ Ok (head, graph))
    × EndsByWalk (trip_by p head graph late) status)
    ⊎ ((fault : Fault) × (graph_in limits p start None (file_at files path) ≡ Err fault) × (status ≡ status_of (Some fault)))

-- 0 if the certificate is accepted, and 13 if it fails at a connection
abbrev pub EndsByVerdict : NetworkModel → Query → List (Option ℕ) → ℕ → Type 0
EndsByVerdict network query values status =
    (IsAccepted network query values × (status ≡ 0)) ⊎ ((connection : ℕ) × IsLastFault network query values connection × (status ≡ 13))

-- if the certificate file reads, as its certificate says; and otherwise the status of its fault
abbrev pub EndsByCertificateFile : Limits → FileMap → ℕ → List ℕ → Problem → ℕ → Type 0
EndsByCertificateFile limits files start path p status =
    ((query : Query) × (certificate : LowerBounds) × IsCertificateFile (Some files) limits start path p query certificate × EndsByVerdict p.timetable.network query certificate.values status)
    ⊎ ((fault : Fault) × FailsFile p start (bytes_of limits.bytes input.Proof None (file_at files path)) fault × (status ≡ status_of (Some fault)))

-- 0 if the tree is safe, and 15 if it is not
abbrev pub EndsByTree : NetworkModel → Query → Tree → ℕ → Type 0
EndsByTree network query tree status = ((status ≡ 0) × IsSafeFor network query tree) ⊎ ((status ≡ 15) × ¬ IsSafeFor network query tree)

-- if the graph file reads, as its graph says; and otherwise the status of its fault
abbrev pub EndsByScore : Limits → FileMap → ℕ → List ℕ → Problem → ℕ → Type 0
EndsByScore limits files start path p status =
    ((head : Head) × (graph : PlanGraph) × (graph_in limits p start None (file_at files path) ≡ Ok (head, graph))
    × EndsByTree p.timetable.network head.query (unfold_plan graph p.timetable.network head.query) status)
    ⊎ ((fault : Fault) × (graph_in limits p start None (file_at files path) ≡ Err fault) × (status ≡ status_of (Some fault)))

-- some tree is safe from the start of the query or from a later moment
abbrev pub HasLater : Problem → Query → Type 0
HasLater p query = (moment : ℕ) × (tree : Tree) × (query.start.0 ≤ moment) × SafeOf p query moment tree

-- 0 if some tree is safe from the first moment, and 1 if none is
abbrev pub EndsByDepartures : Problem → Query → ℕ → Type 0
EndsByDepartures p query status = EndsBy (HasSafeFor p query) status

-- 0 if some tree is safe from some moment on, and 1 if none is
abbrev pub EndsByLatest : Problem → Query → ℕ → Type 0
EndsByLatest p query status = EndsBy (HasLater p query) status

-- 0, also if from no place anything is safe
abbrev pub EndsByReach : ℕ → Type 0
EndsByReach status = status ≡ 0
