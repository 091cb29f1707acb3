-- The names that most proofs of this crate cite, passed on from one place. Declares nothing.
pub use Rattle.std.proofs.Common.{Err, IfErr, IfOk, IsSome, List, None, Ok, OnErr, OnOk, Option, Result, Some, ap, arith, inl, inr, length, map, refl, string_bytes, subst, sym, ℕ, ⊎_elim, ◌<◌}
pub use Rattle.std.proofs.Common.{◌∙◌, ◌≡◌, ◌≢◌, ◌⊎◌}
pub use Rattle.std.specs.Io.KnownBytes.{Appends, Keeps}
pub use Rattle.file_ports.specs.{Loading.AppendsFront, Counts.{HasCause, Rose, RoseAt}, Ports.{FileMap, FilesState}}
pub use Rattle.command_line.specs.Jobs.{Ask, AskModel, Certify, CheckGraph, CheckProof, Departures, Expand, JobModel, JourneyModel, Latest, Plan, Punctual, Reach, Replay as Replays, Safe, Sample}
pub use Rattle.command_line.specs.{Jobs.{SourceModel, job_of}, Shown.{ask_shown, journey_shown, wanted_job}}
pub use Rattle.csv_rows.specs.declared.limits.Limits.{Limits}
pub use Rattle.journey_answers.specs.Answers.{IsNoSafe, IsQueryOf}
pub use Rattle.journey_model.specs.{FaultLines.{IsFormatted, line_of}, Faults.{IsUndisturbed, status_of, unread_input, OrNoMemory}, Known.parts_of, Sites.{HasSite, NamedParts}}
pub use Rattle.journey_model.specs.declared.{faults.{Fault.{Fault, TheVariants.{NoMemory, NoSafe, Read, Write}}, Input.Input}, problem.Problem.Problem}
pub use Rattle.journey_problem.proofs.NoFaults.{no_fault, none_unread}
pub use Rattle.journey_problem.specs.{Files.{HasCauses, path_of}, Problems.{HasTimetable, IsFaultless, IsProblem, IsProblemFault}, Paths.no_path}
pub use Rattle.journey_report.specs.{Findings.{Findings, findings_of, no_findings}, declared.{answer.Answer.Answer, report.Report.Report}}
pub use Rattle.meat_engine.specs.{Asks.{AnswersAsk, EndsAsk, FailsAsk, FailsCheck, FailsJourney, FailsReplay, FailsScore, own_paths}, Ends.{EndsByCertificateFile, EndsByGraphFile, EndsBySafety}}
pub use Rattle.meat_engine.specs.{Ends.EndsByScore, Received.{AnswersJob, FailsJob, HasAnswer, IsExplained, IsLineWritten, IsRefused, IsRefusedWith, IsWritten, Outcome, path_in}}
pub use Rattle.meat_engine.specs.{Refusals.{IsRefusalBy, known_of}, Samples.{FailsSample, sample_alpha, sample_journey}}
