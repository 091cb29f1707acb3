-- Two runs of questions about a journey, each over a host of its own.
use Rattle.std.specs.{Prelude.{◌≡◌, ◌⊎◌, ℕ, ◌≤◌, List, ◌++◌, None, Some, Ok, IsSome, length}, Io.KnownBytes.Appends}
use Rattle.file_ports.specs.Ports.{FileMap, file_at}
use Rattle.csv_rows.specs.declared.limits.Limits.{Limits}
use Rattle.command_line.specs.Jobs.{JourneyModel, AskModel, Ask, Safe, Expand, Plan, Replay, Certify, CheckProof, CheckGraph, Punctual, Departures, Latest}
use Rattle.command_line.specs.Jobs.{Reach, job_of}
use Rattle.journey_problem.specs.Paths.{AgreeFor}
use Rattle.run_laws.specs.Runs.{RunModel, IsUntroubled}

-- an untroubled run that asks this about a journey, and ended without a fault
pub record AskOne (files : FileMap) (j : JourneyModel) (a : AskModel) (r : RunModel) : Type 0 where
  pub untroubled : IsUntroubled files r
  pub asks : job_of r.words ≡ Ok (Ask j a)
  pub no_fault : r.report.fault ≡ None

-- two untroubled runs, over files that agree at the paths of a journey, of which the first asks one thing about it and the second another
pub record AskBoth (files others : FileMap) (j : JourneyModel) (a b : AskModel) (r s : RunModel) : Type 0 where
  pub first : IsUntroubled files r
  pub second : IsUntroubled others s
  pub agree : AgreeFor j files others
  pub first_asks : job_of r.words ≡ Ok (Ask j a)
  pub second_asks : job_of s.words ≡ Ok (Ask j b)

-- the run ended without a fault and wrote these bytes and then a text, which the file of this path holds
pub record IsSaved (limits : Limits) (files : FileMap) (path front : List ℕ) (r : RunModel) : Type 0 where
  pub text : List ℕ
  pub no_fault : r.report.fault ≡ None
  pub known : IsSome r.before.out.written
  pub written : Appends r.before.out.written r.after.out.written (front ++ text)
  pub there : file_at files path ≡ Some text
  pub small : length text ≤ limits.bytes

-- this holds, or the run ended with 9, since there was no memory
abbrev pub OrStatus9 : RunModel → Type 0 → Type 0
OrStatus9 s P = P ⊎ (s.report.status.0 ≡ 9)

-- both ended without a fault
pub record EndWell (r s : RunModel) : Type 0 where
  pub first : r.report.fault ≡ None
  pub second : s.report.fault ≡ None

-- it asks for an answer by strategies that always reach the target, with a deadline by this percentage
abbrev pub IsBySafety : ℕ → AskModel → Type 0
IsBySafety alpha (Safe beta) = beta ≡ alpha
IsBySafety alpha (Expand beta) = beta ≡ alpha
IsBySafety alpha (Plan beta) = beta ≡ alpha
IsBySafety alpha (Certify beta) = beta ≡ alpha
IsBySafety alpha (Punctual beta promise) = beta ≡ alpha
IsBySafety alpha (Replay graph late) = ⊥
IsBySafety alpha (CheckProof certificate) = ⊥
IsBySafety alpha (CheckGraph graph) = ⊥
IsBySafety alpha (Departures until last) = ⊥
IsBySafety alpha (Latest until) = ⊥
IsBySafety alpha (Reach until) = ⊥
