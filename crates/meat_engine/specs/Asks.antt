-- What is asked about a journey: its answers, why there are none, and what it ends with.
use Rattle.std.specs.Prelude.{◌≡◌, ◌⊎◌, ℕ, List, Option, Some}
use Rattle.file_ports.specs.Ports.{FileMap}
use Rattle.csv_rows.specs.declared.limits.Limits.{Limits}
use Rattle.command_line.specs.Jobs.{JourneyModel, AskModel, Safe, Expand, Plan, Replay, Certify, CheckProof, CheckGraph, Punctual, Departures, Latest, Reach}
use Rattle.journey_model.specs.{declared.{faults.Fault.Fault, problem.Problem.Problem}, Sites.NamedParts, Known.parts_of}
use Rattle.journey_problem.specs.{Files.OwnPaths, Problems.{FailsBeforeSearch, InProblem}, Paths.{no_path, graph_path, certificate_path}}
use Rattle.journey_problem.specs.{GraphFiles.{InGraphFile, FailsGraph}, CertificateFiles.{InCertificateFile, FailsCertificate}}
use Rattle.journey_report.specs.Findings.{Findings}
use Rattle.journey_answers.specs.{Answers.{InQuery, AnswersSafe, AnswersExpand, AnswersPlan, IsNoSafe}, Punctual.AnswersPunctual, Trips.AnswersReplay}
use Rattle.journey_answers.specs.{Trips.IsTripFault, Scores.{IsEnclosed, IsUnsafeGraph}, Certified.{AnswersCertify, IsHeld, IsBroken}, Departures.query_until}
use Rattle.journey_answers.specs.{Departures.{AnswersDepartures, AnswersLatest, FailsDepartures, FailsLatest}, Reach.{AnswersReach, FailsReach}}
use Rattle.meat_engine.specs.Ends.{EndsByScore, EndsBySafety, EndsByGraphFile, EndsByCertificateFile, EndsByDepartures, EndsByLatest, EndsByReach}

-- the paths of the files that are read beside those of the journey
abbrev pub own_paths : AskModel → OwnPaths
own_paths (Safe alpha) = no_path
own_paths (Expand alpha) = no_path
own_paths (Plan alpha) = no_path
own_paths (Replay graph late) = graph_path graph
own_paths (Certify alpha) = no_path
own_paths (CheckProof certificate) = certificate_path certificate
own_paths (CheckGraph graph) = graph_path graph
own_paths (Punctual alpha promise) = no_path
own_paths (Departures until last) = no_path
own_paths (Latest until) = no_path
own_paths (Reach until) = no_path

-- the findings and the text answer what is asked about a problem, from a start on
abbrev pub AnswersAsk : Option FileMap → Limits → ℕ → Problem → AskModel → Findings → List ℕ → Type 0
AnswersAsk contents limits start p (Safe alpha) found text = InQuery p start alpha (AnswersSafe p found text)
AnswersAsk contents limits start p (Expand alpha) found text = InQuery p start alpha (AnswersExpand p found text)
AnswersAsk contents limits start p (Plan alpha) found text = InQuery p start alpha (AnswersPlan p found text)
AnswersAsk contents limits start p (Replay graph late) found text = InGraphFile contents limits start graph p (AnswersReplay p late found text)
AnswersAsk contents limits start p (Certify alpha) found text = InQuery p start alpha (AnswersCertify p found text)
AnswersAsk contents limits start p (CheckProof certificate) found text = InCertificateFile contents limits start certificate p (IsHeld p found text)
AnswersAsk contents limits start p (CheckGraph graph) found text = InGraphFile contents limits start graph p (IsEnclosed p found text)
AnswersAsk contents limits start p (Punctual alpha promise) found text = InQuery p start alpha (AnswersPunctual p promise found text)
AnswersAsk contents limits start p (Departures until last) found text = AnswersDepartures p (query_until p start until) last found text
AnswersAsk contents limits start p (Latest until) found text = AnswersLatest p (query_until p start until) found text
AnswersAsk contents limits start p (Reach until) found text = AnswersReach p (query_until p start until) found text

-- why a replay has no answer, unless there was no memory: the graph file has a fault; or the trip by its graph
abbrev pub FailsReplay : Option FileMap → Limits → ℕ → List ℕ → List ℕ → Problem → Fault → Type 0
FailsReplay contents limits start path late p fault =
    FailsGraph contents limits start path p fault ⊎ InGraphFile contents limits start path p (IsTripFault p late fault)

-- why a graph has no bounds, unless there was no memory: the graph file has a fault; or its graph is not safe
abbrev pub FailsScore : Option FileMap → Limits → ℕ → List ℕ → Problem → Fault → Type 0
FailsScore contents limits start path p fault =
    FailsGraph contents limits start path p fault ⊎ InGraphFile contents limits start path p (IsUnsafeGraph p fault)

-- why a check has no answer, unless there was no memory: the certificate file has a fault; or its certificate fails
abbrev pub FailsCheck : Option FileMap → Limits → ℕ → List ℕ → Problem → Fault → Type 0
FailsCheck contents limits start path p fault = FailsCertificate contents limits start path p fault ⊎ InCertificateFile contents limits start path p (IsBroken p fault)

-- why it has no answer, unless there was no memory
abbrev pub FailsAsk : Option FileMap → Limits → ℕ → Problem → AskModel → Fault → Type 0
FailsAsk contents limits start p (Safe alpha) fault = IsNoSafe p start fault
FailsAsk contents limits start p (Expand alpha) fault = IsNoSafe p start fault
FailsAsk contents limits start p (Plan alpha) fault = IsNoSafe p start fault
FailsAsk contents limits start p (Replay graph late) fault = FailsReplay contents limits start graph late p fault
FailsAsk contents limits start p (Certify alpha) fault = IsNoSafe p start fault
FailsAsk contents limits start p (CheckProof certificate) fault = FailsCheck contents limits start certificate p fault
FailsAsk contents limits start p (CheckGraph graph) fault = FailsScore contents limits start graph p fault
FailsAsk contents limits start p (Punctual alpha promise) fault = IsNoSafe p start fault
FailsAsk contents limits start p (Departures until last) fault = FailsDepartures p (query_until p start until) fault
FailsAsk contents limits start p (Latest until) fault = FailsLatest p (query_until p start until) fault
FailsAsk contents limits start p (Reach until) fault = FailsReach fault

-- the status that it ends with if no file fails to be read and the answer is written, unless there was no memory
abbrev pub EndsAsk : Limits → FileMap → ℕ → Problem → AskModel → ℕ → Type 0
EndsAsk limits files start p (Safe alpha) status = EndsBySafety p start status
EndsAsk limits files start p (Expand alpha) status = EndsBySafety p start status
EndsAsk limits files start p (Plan alpha) status = EndsBySafety p start status
EndsAsk limits files start p (Replay graph late) status = EndsByGraphFile limits files start graph late p status
EndsAsk limits files start p (Certify alpha) status = EndsBySafety p start status
EndsAsk limits files start p (CheckProof certificate) status = EndsByCertificateFile limits files start certificate p status
EndsAsk limits files start p (CheckGraph graph) status = EndsByScore limits files start graph p status
EndsAsk limits files start p (Punctual alpha promise) status = EndsBySafety p start status
EndsAsk limits files start p (Departures until last) status = EndsByDepartures p (query_until p start until) status
EndsAsk limits files start p (Latest until) status = EndsByLatest p (query_until p start until) status
EndsAsk limits files start p (Reach until) status = EndsByReach status

-- why what is asked about a journey has no answer if this timetable is known, unless there was no memory: it has none over the
-- problem of the journey, whose timetable that is; or it is the first fault of the files of the journey
abbrev pub FailsJourney : Option FileMap → Limits → JourneyModel → AskModel → Option NamedParts → Fault → Type 0
FailsJourney contents limits j a known fault =
    InProblem contents limits j (λ p. (known ≡ Some (parts_of p)) × FailsAsk contents limits j.start p a fault)
    ⊎ FailsBeforeSearch contents limits j fault
