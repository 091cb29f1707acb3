-- The status of a call in which no count of faults rises, if the files have no fault.
use Rattle.std.specs.Prelude.{◌≡◌, ◌⊎◌, ℕ, List, Option, Some, Ok}
use Rattle.file_ports.specs.Ports.{FileMap}
use Rattle.csv_rows.specs.declared.limits.Limits.{Limits}
use Rattle.feed_maker.specs.MadeTables.{made}
use Rattle.command_line.specs.Jobs.{JourneyModel, AskModel, Ask, Sample, job_of}
use Rattle.journey_model.specs.declared.problem.Problem.{Problem}
use Rattle.journey_problem.specs.Problems.{IsProblem, IsFaultless}
use Rattle.meat_engine.specs.{Asks.EndsAsk, Ends.EndsBySafety, Samples.sample_journey}

-- over files that have a problem: what is asked about it ends as it says, or there was no memory
abbrev pub EndsInProblem : Option FileMap → Limits → List (List ℕ) → ℕ → Type 0
EndsInProblem contents limits words status =
    (files : FileMap) (j : JourneyModel) (a : AskModel) (p : Problem) → contents ≡ Some files → job_of words ≡ Ok (Ask j a)
    → IsProblem limits files j p → EndsAsk limits files j.start p a status ⊎ (status ≡ 9)

-- over files with no fault: they have a problem, and what is asked about it ends as it says, or there was no memory
abbrev pub EndsWithoutFault : Option FileMap → Limits → List (List ℕ) → ℕ → Type 0
EndsWithoutFault contents limits words status =
    (files : FileMap) (j : JourneyModel) (a : AskModel) → contents ≡ Some files → job_of words ≡ Ok (Ask j a) → IsFaultless limits files j
    → ((p : Problem) × IsProblem limits files j p × EndsAsk limits files j.start p a status) ⊎ (status ≡ 9)

-- `sample` over made files that have a problem: 0 if a strategy is safe, 1 if none is, or 9
abbrev pub SampleEnds : Limits → List (List ℕ) → ℕ → Type 0
SampleEnds limits words status =
    (size : ℕ) (p : Problem) → job_of words ≡ Ok (Sample size) → IsProblem limits (made size) sample_journey p
    → EndsBySafety p sample_journey.start status ⊎ (status ≡ 9)

-- if no count of faults rises in a call, its status is this
pub record IsComplete (contents : Option FileMap) (limits : Limits) (words : List (List ℕ)) (status : ℕ) : Type 0 where
  pub problem : EndsInProblem contents limits words status
  pub faultless : EndsWithoutFault contents limits words status
  pub sample : SampleEnds limits words status
