-- The names that most proofs of this crate cite, passed on from one place. Declares nothing.
pub use Rattle.std.proofs.Common.{All, AllPairs, Contains, Err, IsTrue, List, MatchOption, None, Ok, Option, Result, Some, [], ap, ap₂, arith, ext_get_or, false, inl, inr, length, map, nat_lt, refl}
pub use Rattle.std.proofs.{Common.{subst, suc, sym, zero, ℕ, ◌++◌, ◌+◌, ◌<◌, ◌↔◌, ◌∙◌, ◌∷◌, ◌≡◌, ◌≢◌, ◌≤◌, ◌⊎◌}, lemmas.Bool.{both_ways, cases_Bool, cases_eq, cases_lt, cases_order, eq-eqb, ne_eqb}}
pub use Rattle.std.proofs.lemmas.{Bool.Decides.nat_tests, List.Elements.{All-contains, All-head, All-nil}}
pub use Rattle.std.specs.Io.KnownBytes.{Appends, Keeps}
pub use Rattle.command_line.specs.Jobs.{Ask, AskModel, Certify, CheckGraph, CheckProof, CutFile, Departures, Expand, FeedFolder, JobModel, JourneyModel, Latest, Plan, Punctual, Reach}
pub use Rattle.command_line.specs.Jobs.{Replay as Replays, Safe, Sample, SourceModel, job_of}
pub use Rattle.csv_rows.specs.{FeedTables.unread_table, Tables.table_of, declared.{feed_tables.{FeedFault.FeedFault, Table.Table}, limits.Limits.Limits}}
pub use Rattle.decision_graph.proofs.Deadlines.{below_covers, no_worse, worst_kept}
pub use Rattle.decision_graph.specs.Planned.{IsPlanned}
pub use Rattle.departure_table.proofs.Latest.{of_last_row, safe_sooner}
pub use Rattle.file_ports.specs.Ports.{FileMap, file_at}
pub use Rattle.graph_text.specs.{GraphTexts.plan_text, Reading.{IsReadAs, graph_of}, declared.Head.Head}
unfoldable pub use Rattle.gtfs_tables.specs.Feeds.{tables_in}
pub use Rattle.interval_fixed.specs.Interval.{Interval}
pub use Rattle.journey_answers.specs.{Answers.{AnswersExpand, AnswersPlan, AnswersSafe, HasNoSafe, InQuery, IsNoSafe, IsQueryOf, head_of}, Certified.{AnswersCertify, IsBroken, IsHeld}}
pub use Rattle.journey_answers.specs.{Departures.{AnswersDepartures, AnswersLatest, AreDepartures, HasSafeFor, query_until}, Scores.{IsEnclosed, IsUnsafeGraph}, Trips.{AnswersReplay, IsTripFault}}
pub use Rattle.journey_answers.specs.Trips.{trip_by}
pub use Rattle.journey_model.specs.{Faults.{status_of, unread_input}, Sites.NamedParts, declared.{faults.{Fault.{Fault, TheVariants.{NoMemory, Read, Write}}, Input.Input}, problem.Problem.Problem}}
pub use Rattle.journey_problem.proofs.{NoFaults.{no_fault, no_folder_fault, none_unread, not_feed, table_read}, SameFiles.{agree_all, agree_sym, own_problem, own_fault}}
pub use Rattle.journey_problem.specs.{CertificateFiles.{FailsCertificate, FailsFile, FailsText, InCertificateFile, IsCertificateText}, FeedProblems.{GtfsFolder, IsFaultAfterFolder}}
pub use Rattle.journey_problem.specs.{FeedProblems.{IsFeedProblemFault, IsFolderFault, IsWindowFault}, Files.{AgreeAt, bytes_of, path_of as file_path}, Paths.AgreeFor, GraphFiles.FailsGraph}
pub use Rattle.journey_problem.specs.{GraphFiles.{InGraphFile, graph_as, graph_in}, OneProblem.HasOneProblem, Problems.{IsProblem, IsProblemFault, IsProblemFaultOver}}
pub use Rattle.journey_report.specs.{AnswerTexts.punctual_row, Findings.{Findings, findings_of, no_findings, plan_findings, punctual_findings}}
pub use Rattle.lower_proof.proofs.{ReadOnce.{never_memory, read_once}, Vias.IsLeast-unique}
pub use Rattle.lower_proof.specs.{Certificates.{AreLeast, IsAccepted, IsLastFault, IsLeastAt, IsLeastAtStart, IsTight, IsVia, Offers, bound_of}, declared.LowerBounds.LowerBounds}
pub use Rattle.lower_proof.specs.declared.reader.ProofFault.{ProofFault}
pub use Rattle.meat_engine.specs.{Asks.{AnswersAsk, EndsAsk, FailsAsk, FailsCheck, FailsJourney, FailsReplay, FailsScore, own_paths}, Ends.{EndsByCertificateFile, EndsByDepartures, EndsByGraphFile}}
pub use Rattle.meat_engine.specs.{Ends.{EndsByLatest, EndsByScore, EndsByVerdict, EndsByWalk, HasLater}, Received.{AnswersJob, AnswersWords, FailsJob, HasAnswer, IsExplained, IsRefused, path_in}}
pub use Rattle.meat_engine.specs.{RunPromises.WritesLine, Samples.{AnswersSampled, IsSampled, sample_alpha, sample_journey}}
pub use Rattle.meat_scan.specs.Rules.{IsByRules, Kept, kept_after, kept_leg}
pub use Rattle.plan_graph.proofs.{Picked.{pick_further, pick_here, rows_of_place-by, table_further, table_here}, Tables.{first_pick, one_found, picked_there}}
pub use Rattle.plan_graph.specs.{Unfold.{Precedes, pick_after, pick_at, pick_row, rows_of_place, unfold_expanded, unfold_plan}, Ready.{IsLegOf, IsReadyRide, IsSafeForSome, Stands, StandsIn}}
pub use Rattle.plan_graph.specs.declared.{ExpandedGraph.ExpandedGraph, GraphRow.GraphRow, PlanGraph.PlanGraph}
pub use Rattle.plan_model.proofs.{Laws.{reaches_from_safe, safe_exists}, Lists.{AllPairs-head, AllPairs-tail, Contains-cons_cases, Contains-from_map, Contains-head, Contains-map, Contains-nil}}
pub use Rattle.plan_model.proofs.Lists.{Contains-tail}
pub use Rattle.plan_model.specs.{Network.{IsValid, arr_of, connection, count, dep_of, NetworkModel}, Order.{IsEarlier, IsScanOrder}, Strategy.{AreSafe, IsBoardable, IsBoardableAtStart, IsLeastWorst}}
pub use Rattle.plan_model.specs.{Strategy.{IsLeg, IsSafe, IsSafeFor, IsSafeFromStart, deadline_of}, Tree.{Done, Kid, Kids, Nil, Ride, Stuck, Tree}, Unfold.{arrival_of, by_place, end_of, kids_after}}
pub use Rattle.plan_model.specs.{Unfold.{outcomes_of, ride_of, ride_or_stuck, unfold_after, unfold_from, unfolding_of}, declared.model.{ConnectionId.ConnectionId, Leg.Leg, Moment.Moment}}
pub use Rattle.plan_model.specs.declared.model.{Outcome.Outcome, Query.Query}
pub use Rattle.trip_replay.specs.declared.ReplayFault.{ReplayFault}
pub use Rattle.value_laws.specs.Means.{from_span, mean_scoring}
pub use Rattle.run_laws.specs.{OneRun.{IsOneAnswer, EndAlike, HasOneRun, IsOneEnd}, Runs.{AgreeOn, IsRunWithin, IsUntroubled, RunModel}, Wholes.{HasEveryRow, IsOneStrategy}}
