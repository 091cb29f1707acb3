-- The names that most proofs of this crate cite, passed on from one place. Declares nothing.
pub use Rattle.std.proofs.Common.{Bool, Contains, Err, IfErr, IfOk, IfSome, IsErrAnd, IsOk, IsOkAnd, List, None, Ok, OnOk, Option, Result, Some, [], ap, arith, bytes_eq, ext_get_or, false}
pub use Rattle.std.proofs.Common.{get_or, if◌then◌else◌, inl, inr, is_some, length, option_map, refl, slice_get, slice_index_or, subst, suc, sym, true, unwrap_or, zero, ℕ, ℤ, ⊎_elim, ◌++◌, ◌+◌}
pub use Rattle.std.proofs.{Common.{◌<◌, ◌==◌, ◌∙◌, ◌∷◌, ◌≡◌, ◌≢◌, ◌≤◌, ◌⊎◌}, lemmas.{Bool.cases_lt, Option.{IfSome_then, slice_get-get_or, slice_get_within}, Result.{IfErr-weaker, IfOk-weaker}}}
pub use Rattle.change_times.specs.{Changes.{AreCollectedChanges, ChangeParts, links_of, place_seconds}, Transfers.place_of_stop}
pub use Rattle.command_line.specs.{Jobs.{CutFile, FeedFolder, JourneyModel, SourceModel, source_or_target}, Shown.{journey_shown, source_shown}}
pub use Rattle.connections.specs.Cut.{IsNetworkFrom, connection_count, entry_count}
pub use Rattle.csv_rows.proofs.FaultLemmas.{if_raised}
pub use Rattle.csv_rows.specs.{FeedTables.{path_of, unread_table}, Tables.{row_count, table_of}, declared.{feed_tables.FeedFault.FeedFault, limits.Limits.Limits}}
pub use Rattle.cut_file.proofs.Distinct.{one_number, places_distinct, runs_distinct}
pub use Rattle.cut_file.specs.{CutNetworks.{IsCutNetwork, IsRide}, Faults.{first_cut_fault, row}, Read.{Cut as CutParts, IsCutRead}}
pub use Rattle.delay_table.specs.{DelayLists.DelayLists, Delays.{delays_of, first_delay_fault}, Slots.AreDelays}
pub use Rattle.file_ports.proofs.CauseLemmas.{causes-idle, causes-next, causes-of, causes-silent}
pub use Rattle.file_ports.specs.Ports.{FileMap, FilesState, file_at}
pub use Rattle.gtfs_tables.specs.Feeds.{FeedParts, IsFeed, IsFeedOf, Tables, tables_from}
unfoldable pub use Rattle.gtfs_tables.specs.Feeds.{tables_in}
pub use Rattle.journey_model.specs.{Faults.{IsFirst, MayBeUnread, unread_input}, declared.faults.{Fault.{Fault, TheVariants.{Delays, NoMemory, Read, UnknownStop}}, Input.Input}}
pub use Rattle.journey_model.specs.declared.problem.Problem.{Problem}
pub use Rattle.plan_model.proofs.SameParts.{same_parts}
pub use Rattle.plan_model.specs.{NameLists.{AreDistinct, NameLists, NamesFit}, Network.{IsValid, count, no_connection, NetworkModel}, declared.model.PlaceId.PlaceId}
pub use Rattle.plan_model.specs.declared.timetable.Timetable.{Timetable}
unfoldable pub use Rattle.plan_model.specs.Network.{change_of, connection}
pub use Rattle.service_days.specs.{Calendars.{Calendars, RunsBy}, Services.{ServiceParts, runs}}
unfoldable pub use Rattle.service_days.specs.Calendars.{calendars_in}
pub use Rattle.journey_problem.specs.{CutProblems.{HasCutTimetable, IsCutProblem, IsNamed, cut_problem_fault, is_among, stop_fault}, FeedProblems.{GtfsFolder, HasFeedTimetable}}
pub use Rattle.journey_problem.specs.FeedProblems.{IsFaultAfterFolder, IsFeedProblem, IsFeedProblemFault, IsFolder, IsFolderFault, IsLaterTableFault, IsSoundFolder, IsWindowFault, feed_as}
pub use Rattle.journey_problem.specs.{FeedProblems.{feed_stop_fault, window_fault_of, gtfs_folder_of}, Files.{Finds, HasCauses, Records, bytes_of, bytes_present, path_by, IsOfInput}}
pub use Rattle.journey_problem.specs.{InputTables.{AreDelaysOf, HasCut, IsCutOf, IsCutOfSome, cut_as, cut_fault, cut_records, delay_fault, delay_records, fault_in}, Problems.HasTimetable}
pub use Rattle.journey_problem.specs.{Problems.{IsProblem, IsProblemFault, IsProblemFaultOver, IsProblemOver}, Stops.first_which}
pub use mathlib.Core.Path.{fun_ext}
