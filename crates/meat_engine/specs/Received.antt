-- What a run comes to, by its fault, and what the two sinks received.
use Rattle.std.specs.{Prelude.{◌≡◌, ◌≢◌, ◌⊎◌, ℕ, List, Option, None, Some, Ok, Err}, Io.KnownBytes.{Appends, Keeps}}
use Rattle.file_ports.specs.{Counts.Rose, Loading.AppendsFront, Ports.FileMap}
use Rattle.csv_rows.specs.declared.limits.Limits.{Limits}
use Rattle.command_line.specs.{declared.job.WordsFault.WordsFault, Jobs.{JobModel, Ask, Sample, job_of}}
use Rattle.journey_model.specs.{declared.faults.{Input.Input, Fault.{Fault, TheVariants.{Words, Write, NoMemory}}}, FaultLines.{line_of, IsFormatted}}
use Rattle.journey_model.specs.Sites.{NamedParts}
use Rattle.journey_problem.specs.{Files.path_of, Paths.no_path, Problems.InProblem}
use Rattle.journey_report.specs.{declared.report.Report.Report, Findings.{Findings, findings_of, no_findings}}
use Rattle.meat_engine.specs.{Asks.{own_paths, AnswersAsk, FailsJourney}, Samples.{AnswersSample, FailsSample}}

-- the path of an input of a job, if it has one; a made timetable has none that is read
abbrev pub path_in : JobModel → Input → Option (List ℕ)
path_in (Ask j a) input = path_of j (own_paths a) input
path_in (Sample size) input = no_path input

-- the findings and the text answer the job
abbrev pub AnswersJob : Option FileMap → Limits → JobModel → Findings → List ℕ → Type 0
AnswersJob contents limits (Ask j a) found text = InProblem contents limits j (λ p. AnswersAsk contents limits j.start p a found text)
AnswersJob contents limits (Sample size) found text = AnswersSample limits size found text

-- why the job has no answer if this timetable is known, unless there was no memory
abbrev pub FailsJob : Option FileMap → Limits → JobModel → Option NamedParts → Fault → Type 0
FailsJob contents limits (Ask j a) known fault = FailsJourney contents limits j a known fault
FailsJob contents limits (Sample size) known fault = FailsSample limits size known fault

-- the words are a job, of which this holds
abbrev pub Asks : List (List ℕ) → (JobModel → Type 0) → Type 0
Asks words P = (wanted : JobModel) × (job_of words ≡ Ok wanted) × P wanted

-- the findings and the text answer what the words ask
abbrev pub AnswersWords : Option FileMap → Limits → List (List ℕ) → Findings → List ℕ → Type 0
AnswersWords contents limits words found text = Asks words (λ wanted. AnswersJob contents limits wanted found text)

-- why there is no answer to the words, if this timetable is known: there was no memory; or the words are refused; or the job
-- that they ask for has none
abbrev pub IsExplained : Option FileMap → Limits → List (List ℕ) → Option NamedParts → Fault → Type 0
IsExplained contents limits words known fault =
    (fault ≡ NoMemory)
    ⊎ (((refusal : WordsFault) × (fault ≡ Words refusal) × (job_of words ≡ Err refusal))
    ⊎ Asks words (λ wanted. FailsJob contents limits wanted known fault))

-- nothing but the line of the fault is written, the fault has a cause, and this holds of the line
abbrev pub IsRefused : Option FileMap → Limits → List (List ℕ) → Report → (List ℕ → Type 0) → Fault → Type 0
IsRefused contents limits words report Reports fault =
    (findings_of report ≡ no_findings) × ((known : Option NamedParts) × IsExplained contents limits words known fault × Reports (line_of known fault))

-- an answer to the words, of whose text this holds
abbrev pub HasAnswer : Option FileMap → Limits → List (List ℕ) → Report → (List ℕ → Type 0) → Type 0
HasAnswer contents limits words report P = (text : List ℕ) × AnswersWords contents limits words (findings_of report) text × P text

-- how a run ends, by its fault
pub record Outcome (contents : Option FileMap) (limits : Limits) (words : List (List ℕ)) (report : Report) (old new : Option (List ℕ)) (Reports : List ℕ → Type 0) (fault : Option Fault) : Type 0 where
  -- with the whole of its answer, if there is no fault
  pub whole : fault ≡ None → HasAnswer contents limits words report (Appends old new)
  -- with a front of it and the line of the fault, if it could not be written
  pub torn : fault ≡ Some Write → HasAnswer contents limits words report (AppendsFront old new) × ((known : Option NamedParts) → Reports (line_of known Write))
  -- and otherwise with nothing but the line of the fault, which has a cause
  pub refused : (other : Fault) → fault ≡ Some other → other ≢ Write → Keeps old new × IsRefused contents limits words report Reports other

-- a front of a line was received, the whole of it if the sink's count did not rise
abbrev pub IsLineWritten : Option (List ℕ) → Option (List ℕ) → ℕ → ℕ → List ℕ → Type 0
IsLineWritten old new before now line = AppendsFront old new line × (¬ Rose before now → Appends old new line)

-- a text was written whole, or a front of it if writing failed
abbrev pub IsWritten : Option (List ℕ) → Option (List ℕ) → List ℕ → Option Fault → Type 0
IsWritten old new text None = Appends old new text
IsWritten old new text (Some fault) = (fault ≡ Write) × AppendsFront old new text

-- the line of the fault was written, or that there is no memory for it
abbrev pub IsRefusedWith : Option (List ℕ) → Option (List ℕ) → ℕ → ℕ → Option NamedParts → Fault → Option Fault → Type 0
IsRefusedWith old new before now known wanted None = ⊥
IsRefusedWith old new before now known wanted (Some reported) =
    ((reported ≡ wanted) ⊎ ((reported ≡ NoMemory) × IsFormatted wanted)) × IsLineWritten old new before now (line_of known reported)
