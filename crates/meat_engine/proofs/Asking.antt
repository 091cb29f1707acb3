-- Answers and faults, one from another.
use Rattle.meat_engine.proofs.Common.{arith, ◌≡◌, ℕ, List, Option, None, Result, ◌≢◌, RoseAt, FilesState, SourceModel, JourneyModel, AskModel, Input, Fault, Read, NoSafe, NoMemory, unread_input}
use Rattle.meat_engine.proofs.Common.{NamedParts, HasSite, path_of, HasCauses, OrNoMemory, own_paths, IsRefusalBy}
use Rattle.meat_engine.specs.declared.refusal.Refusal.{Refusal}
use Rattle.journey_problem.specs.{FaultsBeforeSearch.IsBeforeSearch, Paths.{graph_path, certificate_path}}

-- an early fault is at no site
pub early_has_site : (known : Option NamedParts) (timetable : SourceModel) (fault : Fault) → IsBeforeSearch timetable fault → HasSite known fault
early_has_site known timetable fault early = grind arith

-- nor is that there are no strategies: what holds where it fails only as no strategy is safe, or there was no memory
pub record IsUnsafeReported (Fails : Fault → Type 0) (known : Option NamedParts) (fault : Fault) : Type 0 where
  pub why : fault ≢ NoMemory → Fails fault
  pub has_site : HasSite known fault
  pub unread : unread_input fault ≡ None

pub unsafe_reported : (Fails : Fault → Type 0) → ((fault : Fault) → Fails fault → fault ≡ NoSafe) → (known : Option NamedParts) (fault : Fault)
    → OrNoMemory Fails fault → IsUnsafeReported Fails known fault
unsafe_reported Fails unsafe known fault h = grind arith

-- a refusal before there is a problem
pub plain_refusal : (cause : Option NamedParts → Fault → Type 0) (r : Refusal) (fault : Fault) → r.fault ≡ fault → r.problem ≡ None → HasSite None fault
    → (fault ≢ NoMemory → cause None fault) → IsRefusalBy cause r
plain_refusal cause r fault is none reports holds = grind arith

-- where no file fails to be read
pub never_unread : (fault : Fault) → ((input : Input) → fault ≡ Read input → ⊥) → unread_input fault ≡ None
never_unread fault never = grind arith

-- the causes by other paths, where what is known of a path is known of the other
pub causes-paths : {T : Type 0} {path other : Input → Option (List ℕ)} {before now : FilesState} (r : Result T Fault)
    → ((file : Input) → RoseAt (path file) before.faults_of now.faults_of → RoseAt (other file) before.faults_of now.faults_of)
    → HasCauses path before now r → HasCauses other before now r
causes-paths r rises h = grind arith

-- the paths that an ask has are those of its job beside the files of the journey
beside_graph : (graph : List ℕ) (j : JourneyModel) (before_of now_of : List ℕ → ℕ) (file : Input) → RoseAt (graph_path graph file) before_of now_of
    → RoseAt (path_of j (graph_path graph) file) before_of now_of
beside_graph graph j before_of now_of file rose = grind arith

beside_certificate : (certificate : List ℕ) (j : JourneyModel) (before_of now_of : List ℕ → ℕ) (file : Input) → RoseAt (certificate_path certificate file) before_of now_of
    → RoseAt (path_of j (certificate_path certificate) file) before_of now_of
beside_certificate certificate j before_of now_of file rose = grind arith

pub beside : (ask : AskModel) (j : JourneyModel) (before_of now_of : List ℕ → ℕ) (file : Input) → RoseAt (own_paths ask file) before_of now_of
    → RoseAt (path_of j (own_paths ask) file) before_of now_of
beside ask j before_of now_of file rose = grind (arith, beside_graph, beside_certificate)
