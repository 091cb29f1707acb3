-- What is answered, and why it is not, depends on the records of the files at the paths that the words name, and on no others.
use Rattle.run_laws.proofs.Common.{arith, ◌≡◌, ◌⊎◌, ℕ, List, Option, None, Some, Result, Ok, Err, inl, inr, sym, subst, ◌∙◌, FileMap, file_at, table_of, Limits, JobModel, Ask, Sample, job_of}
use Rattle.run_laws.proofs.Common.{JourneyModel, AskModel, Replays, CheckProof, CheckGraph, Query, PlanGraph, Head, LowerBounds, Fault, Input, unread_input, NamedParts, Problem, Findings}
use Rattle.run_laws.proofs.Common.{bytes_of, AgreeAt, AgreeFor, agree_sym, own_problem, own_fault, file_path, own_paths, path_in, graph_in, graph_as, graph_of, InGraphFile, FailsGraph, FailsFile}
use Rattle.run_laws.proofs.Common.{FailsCertificate, InCertificateFile, IsProblem, IsProblemFault, AnswersAsk, FailsAsk, FailsJourney, AnswersJob, AnswersWords, FailsJob, IsExplained, AgreeOn}
use Rattle.run_laws.specs.Runs.{ReadAlikeOn}
use Rattle.std.proofs.Common.{IfSome}
use Rattle.plan_model.specs.Results.{and_then}
use Rattle.lower_proof.specs.Reading.{IsProofReported}
use Rattle.journey_problem.proofs.SameFiles.{alike_sym, problem_of_records, fault_of_records}
use Rattle.journey_problem.specs.{Files.{OwnPaths, Records, ReadAlikeAt, HaveSameRecords, bytes_present}, Paths.ReadAlike}
use Rattle.journey_model.specs.declared.faults.Input.TheVariants as input

-- the files of a journey are among those that are read for a question about it
pub agree_for : (j : JourneyModel) (own : OwnPaths) (files other : FileMap) → AgreeAt (file_path j own) files other → AgreeFor j files other
agree_for j own files other same (input.Feed table) = same (input.Feed table)
agree_for j own files other same input.Cut = same input.Cut
agree_for j own files other same input.Delays = same input.Delays
agree_for j own files other same _ = tt

read_for : (limits : Limits) (j : JourneyModel) (own : OwnPaths) (files other : FileMap) → ReadAlikeAt limits.bytes (file_path j own) files other → ReadAlike limits j files other
read_for limits j own files other same (input.Feed table) = same (input.Feed table)
read_for limits j own files other same input.Cut = same input.Cut
read_for limits j own files other same input.Delays = same input.Delays
read_for limits j own files other same _ = tt

-- both have one fault, or the same records
abbrev SameBytes : Result (List ℕ) Fault → Result (List ℕ) Fault → Type 0
SameBytes (Ok a) (Ok b) = table_of a ≡ table_of b
SameBytes (Ok a) (Err f) = ⊥
SameBytes (Err e) (Ok b) = ⊥
SameBytes (Err e) (Err f) = e ≡ f

bytes_same : (r : Result (List ℕ) Fault) → SameBytes r r
bytes_same r = grind arith

present_alike : (most : ℕ) (kind : Input) (file other : Option (List ℕ)) → HaveSameRecords most file other → SameBytes (bytes_present most kind file) (bytes_present most kind other)
present_alike most kind file other same = grind arith

bytes_alike : (most : ℕ) (kind : Input) (unread : Option Input) (file other : Option (List ℕ)) → HaveSameRecords most file other
    → SameBytes (bytes_of most kind unread file) (bytes_of most kind unread other)
bytes_alike most kind unread file other same = grind (arith, present_alike)

-- from other files to these
module _ (limits : Limits) (files other : FileMap) where
  -- the file of this path is read as the same
  abbrev ReadsSame : Input → List ℕ → Type 0
  ReadsSame kind path = (unread : Option Input) → SameBytes (bytes_of limits.bytes kind unread (file_at other path)) (bytes_of limits.bytes kind unread (file_at files path))

  -- all that is read for a question is
  pub record CarriesAsk (j : JourneyModel) (a : AskModel) : Type 0 where
    problem : (p : Problem) → IsProblem limits other j p → IsProblem limits files j p
    fault : (fault : Fault) → IsProblemFault limits other j fault → IsProblemFault limits files j fault
    graph : IfSome (own_paths a input.Graph) (ReadsSame input.Graph)
    proof : IfSome (own_paths a input.Proof) (ReadsSame input.Proof)

  abbrev pub Carries : JobModel → Type 0
  Carries (Ask j a) = CarriesAsk j a
  Carries (Sample size) = Unit {0}

  by_bytes_some : (kind : Input) (path : Option (List ℕ)) → IfSome path (λ at. file_at other at ≡ file_at files at) → IfSome path (ReadsSame kind)
  by_bytes_some kind path same = grind (arith, bytes_same)

  pub by_bytes : (job : JobModel) → AgreeAt (path_in job) other files → Carries job
  by_bytes (Ask j a) same = record {
    problem = λ p. own_problem limits other files j p (agree_for j (own_paths a) other files same);
    fault = λ fault. own_fault limits other files j fault (agree_for j (own_paths a) other files same);
    graph = by_bytes_some input.Graph (own_paths a input.Graph) (same input.Graph);
    proof = by_bytes_some input.Proof (own_paths a input.Proof) (same input.Proof);
  }
  by_bytes (Sample size) same = tt

  by_records_some : (kind : Input) (path : Option (List ℕ)) → IfSome path (λ at. HaveSameRecords limits.bytes (file_at other at) (file_at files at)) → IfSome path (ReadsSame kind)
  by_records_some kind path same = grind (arith, bytes_alike)

  pub by_records : (job : JobModel) → ReadAlikeAt limits.bytes (path_in job) other files → Carries job
  by_records (Ask j a) same = record {
    problem = λ p. problem_of_records limits other files j p (read_for limits j (own_paths a) other files same);
    fault = λ fault. fault_of_records limits other files j fault (read_for limits j (own_paths a) other files same);
    graph = by_records_some input.Graph (own_paths a input.Graph) (same input.Graph);
    proof = by_records_some input.Proof (own_paths a input.Proof) (same input.Proof);
  }
  by_records (Sample size) same = tt

  module _ (start : ℕ) (path : List ℕ) (p : Problem) where
    graph_by : (r s : Result (List ℕ) Fault) → SameBytes r s
        → and_then r (λ bytes. graph_as (graph_of bytes p.timetable.network p.timetable.names p.source.0 p.target.0 start))
        ≡ and_then s (λ bytes. graph_as (graph_of bytes p.timetable.network p.timetable.names p.source.0 p.target.0 start))
    graph_by r s same = grind arith

    graph_same : ReadsSame input.Graph path → (unread : Option Input) → graph_in limits p start unread (file_at other path) ≡ graph_in limits p start unread (file_at files path)
    graph_same same unread = graph_by (bytes_of limits.bytes input.Graph unread (file_at other path)) (bytes_of limits.bytes input.Graph unread (file_at files path)) (same unread)

    in_graph : (P : Head → PlanGraph → Type 0) → ReadsSame input.Graph path → InGraphFile (Some other) limits start path p P → InGraphFile (Some files) limits start path p P
    in_graph P same (head, graph, is, holds) = (head, graph, record { reads = sym (graph_same same None) ∙ is.reads; fit = is.fit; head_is = is.head_is }, holds)

    graph_fails : (fault : Fault) → ReadsSame input.Graph path → FailsGraph (Some other) limits start path p fault → FailsGraph (Some files) limits start path p fault
    graph_fails fault same (of, fails) = (of, sym (graph_same same (unread_input fault)) ∙ fails)

    -- the other text with the same records
    record HasText (s : Result (List ℕ) Fault) (text : List ℕ) : Type 0 where
      other_text : List ℕ
      is : s ≡ Ok other_text
      records : table_of text ≡ table_of other_text

    text_by : (r s : Result (List ℕ) Fault) (text : List ℕ) → SameBytes r s → r ≡ Ok text → HasText s text
    text_by r s text same is = grind arith

    in_certificate : (P : Query → LowerBounds → Type 0) → ReadsSame input.Proof path → InCertificateFile (Some other) limits start path p P → InCertificateFile (Some files) limits start path p P
    in_certificate P same (query, certificate, is, holds) =
        let found = text_by (bytes_of limits.bytes input.Proof None (file_at other path)) (bytes_of limits.bytes input.Proof None (file_at files path)) is.text (same None) is.reads in (
          query,
          certificate,
          record {
            text = found.other_text;
            reads = found.is;
            reports = subst (λ (t : Records). IsProofReported p.timetable.network p.timetable.names p.source.0 p.target.0 start t query certificate.values) found.records is.reports;
          },
          holds,
        )

    fails_by : (r s : Result (List ℕ) Fault) (fault : Fault) → SameBytes r s → FailsFile p start r fault → FailsFile p start s fault
    fails_by r s fault same fails = grind arith

    certificate_fails : (fault : Fault) → ReadsSame input.Proof path → FailsCertificate (Some other) limits start path p fault → FailsCertificate (Some files) limits start path p fault
    certificate_fails fault same (of, fails) = grind (arith, fails_by)

    either_graph : (P : Head → PlanGraph → Type 0) (fault : Fault) → ReadsSame input.Graph path → FailsGraph (Some other) limits start path p fault ⊎ InGraphFile (Some other) limits start path p P
        → FailsGraph (Some files) limits start path p fault ⊎ InGraphFile (Some files) limits start path p P
    either_graph P fault same h = grind (arith, graph_fails, in_graph)

    either_certificate : (P : Query → LowerBounds → Type 0) (fault : Fault) → ReadsSame input.Proof path
        → FailsCertificate (Some other) limits start path p fault ⊎ InCertificateFile (Some other) limits start path p P
        → FailsCertificate (Some files) limits start path p fault ⊎ InCertificateFile (Some files) limits start path p P
    either_certificate P fault same h1 = grind (arith, certificate_fails, in_certificate)

  ask_answers : (j : JourneyModel) (p : Problem) (a : AskModel) (found : Findings) (text : List ℕ) → CarriesAsk j a
      → AnswersAsk (Some other) limits j.start p a found text → AnswersAsk (Some files) limits j.start p a found text
  ask_answers j p (Replays graph late) found text same is = in_graph j.start graph p _ same.graph is
  ask_answers j p (CheckProof certificate) found text same is = in_certificate j.start certificate p _ same.proof is
  ask_answers j p (CheckGraph graph) found text same is = in_graph j.start graph p _ same.graph is
  ask_answers j p _ found text same is = is

  ask_fails : (j : JourneyModel) (p : Problem) (a : AskModel) (fault : Fault) → CarriesAsk j a
      → FailsAsk (Some other) limits j.start p a fault → FailsAsk (Some files) limits j.start p a fault
  ask_fails j p (Replays graph late) fault same is = either_graph j.start graph p _ fault same.graph is
  ask_fails j p (CheckProof certificate) fault same is = either_certificate j.start certificate p _ fault same.proof is
  ask_fails j p (CheckGraph graph) fault same is = either_graph j.start graph p _ fault same.graph is
  ask_fails j p _ fault same is = is

  pub journey_fails : (j : JourneyModel) (a : AskModel) (known : Option NamedParts) (fault : Fault) → CarriesAsk j a
      → FailsJourney (Some other) limits j a known fault → FailsJourney (Some files) limits j a known fault
  journey_fails j a known fault same (inl (p, has, is, (named, fails))) =
      inl (p, has, same.problem p is, (named, ask_fails j p a fault same fails))
  journey_fails j a known fault same (inr (before, is)) = inr (before, same.fault fault is)

  job_answers : (job : JobModel) (found : Findings) (text : List ℕ) → Carries job → AnswersJob (Some other) limits job found text → AnswersJob (Some files) limits job found text
  job_answers (Ask j a) found text same (p, has, is, answers) =
      (p, has, same.problem p is, ask_answers j p a found text same answers)
  job_answers (Sample size) found text same is = is

  job_fails : (job : JobModel) (known : Option NamedParts) (fault : Fault) → Carries job → FailsJob (Some other) limits job known fault → FailsJob (Some files) limits job known fault
  job_fails (Ask j a) known fault same is = journey_fails j a known fault same is
  job_fails (Sample size) known fault same is = is

  module _ (words : List (List ℕ)) (carries : (job : JobModel) → job_of words ≡ Ok job → Carries job) where
    pub framed_answer : (found : Findings) (text : List ℕ) → AnswersWords (Some other) limits words found text → AnswersWords (Some files) limits words found text
    framed_answer found text (job, is, answers) = (job, is, job_answers job found text (carries job is) answers)

    pub framed_cause : (known : Option NamedParts) (fault : Fault) → IsExplained (Some other) limits words known fault → IsExplained (Some files) limits words known fault
    framed_cause known fault h1 = grind (arith, job_fails)

-- what words ask is carried over, from the second files to the first
abbrev pub CarriesWords : Limits → FileMap → FileMap → List (List ℕ) → Type 0
CarriesWords limits files others words = (job : JobModel) → job_of words ≡ Ok job → Carries limits files others job

pub carried_bytes : (limits : Limits) (files others : FileMap) (words : List (List ℕ)) → AgreeOn words files others → CarriesWords limits files others words
carried_bytes limits files others words agree job is = by_bytes limits files others job (agree_sym (path_in job) files others (agree job is))

pub carried_records : (limits : Limits) (files others : FileMap) (words : List (List ℕ)) → ReadAlikeOn limits words files others → CarriesWords limits files others words
carried_records limits files others words alike job is = by_records limits files others job (alike_sym limits.bytes (path_in job) files others (alike job is))
