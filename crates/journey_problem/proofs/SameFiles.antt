-- Files that agree at the paths of a journey, or have the same records there, have the same problems and the same faults.
use Rattle.journey_problem.proofs.Common.{◌≡◌, ℕ, ◌≤◌, ap, sym, subst, ◌∙◌, List, length, false, if◌then◌else◌, Option, None, Result, Err, IfSome, IsOkAnd, option_map, inl, inr, fun_ext, FileMap}
use Rattle.journey_problem.proofs.Common.{file_at, Limits, path_of, unread_table, FeedFault, FeedParts, tables_in, tables_from, IsFeedOf, calendars_in, RunsBy, runs, AreCollectedChanges}
use Rattle.journey_problem.proofs.Common.{table_of, SourceModel, CutFile, FeedFolder, JourneyModel, Problem, Fault, Delays, Input, unread_input, DelayLists, AreDelaysOf, delay_fault}
use Rattle.journey_problem.proofs.Common.{first_cut_fault, first_delay_fault, fault_in, cut_as, stop_fault, cut_records, delay_records, cut_problem_fault, Records, bytes_present, path_by, arith}
use Rattle.journey_problem.proofs.Common.{GtfsFolder, IsFolder, IsFeedProblem, IsCutProblem, IsFolderFault, IsLaterTableFault, IsFaultAfterFolder, IsFeedProblemFault, IsProblem, IsProblemOver}
use Rattle.journey_problem.proofs.Common.{IsProblemFault, IsProblemFaultOver}
use Rattle.journey_problem.specs.{CutProblems.places_in, Files.{AgreeAt, ReadAlikeAt, HaveSameRecords, records_of, with_header}, Paths.{AgreeFor, ReadAlike, no_path}}
use Rattle.std.proofs.{Common.{ap₂, nat_lt}, lemmas.Bool.Decides.nat_tests}
use Rattle.std.specs.Option.{option_or}
use Rattle.csv_rows.specs.{declared.feed_tables.{Table.{Table, TheVariants.Transfers}, FeedFault.TheVariants.Read as UnreadTable}, FeedTables.is_unread_table}
use Rattle.plan_model.specs.Results.{and_then}
use Rattle.table_files.specs.{declared.loading.Loaded.Loaded, Loading.{load_of, loaded_file}}
use Rattle.change_times.specs.Changes.{transfers_from, transfers_in}
use Rattle.journey_model.specs.declared.faults.Input.TheVariants as input

agree_some : (path : Option (List ℕ)) (files other : FileMap) → ((path : List ℕ) → file_at files path ≡ file_at other path) → IfSome path (λ at. file_at files at ≡ file_at other at)
agree_some path files other same = grind arith

-- files that are the same at all paths are so at some
pub agree_all : (paths : Input → Option (List ℕ)) (files other : FileMap) → ((path : List ℕ) → file_at files path ≡ file_at other path) → AgreeAt paths files other
agree_all paths files other same input = agree_some (paths input) files other same

agree_back : (path : Option (List ℕ)) (files other : FileMap) → IfSome path (λ at. file_at files at ≡ file_at other at) → IfSome path (λ at. file_at other at ≡ file_at files at)
agree_back path files other same = grind arith

pub agree_sym : (paths : Input → Option (List ℕ)) (files other : FileMap) → AgreeAt paths files other → AgreeAt paths other files
agree_sym paths files other same input = agree_back (paths input) files other (same input)

records_back : (most : ℕ) (file other : Option (List ℕ)) → HaveSameRecords most file other → HaveSameRecords most other file
records_back most file other same = grind arith

alike_back : (most : ℕ) (path : Option (List ℕ)) (files other : FileMap) → IfSome path (λ at. HaveSameRecords most (file_at files at) (file_at other at))
    → IfSome path (λ at. HaveSameRecords most (file_at other at) (file_at files at))
alike_back most path files other same = grind (arith, records_back)

pub alike_sym : (most : ℕ) (paths : Input → Option (List ℕ)) (files other : FileMap) → ReadAlikeAt most paths files other → ReadAlikeAt most paths other files
alike_sym most paths files other same input = alike_back most (paths input) files other (same input)

-- ---- files that are read as the same

module _ (limits : Limits) where
  few : (file : List ℕ) → length file ≤ limits.bytes → nat_lt limits.bytes (length file) ≡ false
  few file small = grind (arith, nat_tests)

  loaded_alike : (table : Table) (file other : Option (List ℕ)) → HaveSameRecords limits.bytes file other → loaded_file limits table file ≡ loaded_file limits table other
  loaded_alike table file other same = grind (arith, few)

  load_alike : (unread : Option Table) (table : Table) (file other : Option (List ℕ)) → HaveSameRecords limits.bytes file other → load_of unread limits table file ≡ load_of unread limits table other
  load_alike unread table file other same =
      ap (λ (r : Result Loaded FeedFault). if is_unread_table unread table then Err (UnreadTable table) else r) (loaded_alike table file other same)

  present_alike : (kind : Input) (headless : Fault) (file other : Option (List ℕ)) → HaveSameRecords limits.bytes file other
      → and_then (bytes_present limits.bytes kind file) (λ bytes. with_header headless (table_of bytes)) ≡ and_then (bytes_present limits.bytes kind other) (λ bytes. with_header headless (table_of bytes))
  present_alike kind headless file other same = grind (arith, few)

  records_alike : (kind : Input) (headless : Fault) (unread : Option Input) (file other : Option (List ℕ)) → HaveSameRecords limits.bytes file other
      → records_of limits.bytes kind headless unread file ≡ records_of limits.bytes kind headless unread other
  records_alike kind headless unread file other same = grind (arith, present_alike)

-- ---- what is loaded alike has the same problems and the same faults

module _ (limits : Limits) (files other : FileMap) where
  abbrev LoadsDelays : JourneyModel → Type 0
  LoadsDelays j = (unread : Option Input) → delay_records limits unread (file_at files j.delays) ≡ delay_records limits unread (file_at other j.delays)

  abbrev LoadsTables : List ℕ → Type 0
  LoadsTables folder = (unread : Option Table) (table : Table) → load_of unread limits table (file_at files (path_of folder table)) ≡ load_of unread limits table (file_at other (path_of folder table))

  abbrev LoadsCut : List ℕ → Type 0
  LoadsCut path = (unread : Option Input) → cut_records limits unread (file_at files path) ≡ cut_records limits unread (file_at other path)

  module _ (j : JourneyModel) (delays : LoadsDelays j) where
    same_delay_fault : (unread : Option Input) → delay_fault limits (file_at files j.delays) unread ≡ delay_fault limits (file_at other j.delays) unread
    same_delay_fault unread = ap (λ (r : Result Records Fault). fault_in (λ table. option_map Delays (first_delay_fault table)) r) (delays unread)

    same_delays : (lists : DelayLists) → AreDelaysOf limits (file_at files j.delays) lists → AreDelaysOf limits (file_at other j.delays) lists
    same_delays lists (table, is, are) = (table, sym (delays None) ∙ is, are)

  module _ (folder : List ℕ) (loads : LoadsTables folder) where
    same_tables : (unread : Option Table) → tables_in files folder limits unread ≡ tables_in other folder limits unread
    unfolding tables_in
    same_tables unread = ap tables_from (fun_ext (loads unread))

    same_calendars : (unread : Option Table) → calendars_in files folder limits unread ≡ calendars_in other folder limits unread
    unfolding calendars_in
    same_calendars unread = grind arith

    same_transfers : (unread : Option Table) (feed : FeedParts) → transfers_in files folder limits unread feed ≡ transfers_in other folder limits unread feed
    same_transfers unread feed = ap (transfers_from feed) (loads unread Transfers)

    same_folder : (h : GtfsFolder) → IsFolder limits files folder h → IsFolder limits other folder h
    same_folder h a = record {
      feed = subst (λ r. IsFeedOf r h.feed) (same_tables None) a.feed;
      services = subst (λ r. IsOkAnd r (RunsBy (runs h.services))) (same_calendars None) a.services;
      changes = subst (λ r. IsOkAnd r (AreCollectedChanges h.feed h.changes)) (same_transfers None h.feed) a.changes;
    }

    same_later_fault : (f : FeedParts) (fault : FeedFault) → IsLaterTableFault limits files folder f fault → IsLaterTableFault limits other folder f fault
    same_later_fault f fault h = grind (arith, same_calendars, same_transfers)

    same_folder_fault : (fault : FeedFault) → IsFolderFault limits files folder fault → IsFolderFault limits other folder fault
    same_folder_fault fault (inl is) = inl (sym (same_tables (unread_table fault)) ∙ is)
    same_folder_fault fault (inr (f, feed, later)) = inr (f, subst (λ r. IsFeedOf r f) (same_tables None) feed, same_later_fault f fault later)

    module _ (horizon : ℕ) (j : JourneyModel) (delays : LoadsDelays j) where
      same_feed_problem : (p : Problem) → IsFeedProblem limits files folder horizon j p → IsFeedProblem limits other folder horizon j p
      same_feed_problem p a = record {
        parts = a.parts;
        lists = a.lists;
        is_folder = same_folder a.parts a.is_folder;
        no_delay_fault = sym (same_delay_fault j delays None) ∙ a.no_delay_fault;
        are_delays = same_delays j delays a.lists a.are_delays;
        no_window_fault = a.no_window_fault;
        timetable = a.timetable;
      }

      same_fault_after : (h : GtfsFolder) (fault : Fault) → IsFaultAfterFolder limits files horizon j h fault → IsFaultAfterFolder limits other horizon j h fault
      same_fault_after h fault is = grind (arith, same_delay_fault)

      same_feed_fault : (fault : Fault) → IsFeedProblemFault limits files folder horizon j fault → IsFeedProblemFault limits other folder horizon j fault
      same_feed_fault fault (inl (table, is, fails)) = inl (table, is, same_folder_fault table fails)
      same_feed_fault fault (inr (h, is, after)) = inr (h, same_folder h is, same_fault_after h fault after)

  module _ (path : List ℕ) (j : JourneyModel) (cut : LoadsCut path) (delays : LoadsDelays j) where
    -- the first fault by the records of both files
    abbrev fault_from : Result Records Fault → Result Records Fault → Option Fault
    fault_from c d =
        option_or (fault_in (λ table. option_map cut_as (first_cut_fault table limits.cut_rows)) c)
        (option_or (fault_in (λ table. option_map Delays (first_delay_fault table)) d) (stop_fault (places_in c) j.from j.to))

    same_cut_fault : (unread : Option Input) → cut_problem_fault limits files path j unread ≡ cut_problem_fault limits other path j unread
    same_cut_fault unread = ap₂ fault_from (cut unread) (delays unread)

    same_cut_problem : (p : Problem) → IsCutProblem limits files path j p → IsCutProblem limits other path j p
    same_cut_problem p a = record {
      table = a.table;
      lists = a.lists;
      no_fault = sym (same_cut_fault None) ∙ a.no_fault;
      is_table = sym (cut None) ∙ a.is_table;
      are_delays = same_delays j delays a.lists a.are_delays;
      timetable = a.timetable;
    }

  -- whatever the timetable
  abbrev LoadAlike : SourceModel → JourneyModel → Type 0
  LoadAlike (CutFile path) j = LoadsCut path × LoadsDelays j
  LoadAlike (FeedFolder folder horizon) j = LoadsTables folder × LoadsDelays j

  over : (timetable : SourceModel) (j : JourneyModel) (p : Problem) → LoadAlike timetable j → IsProblemOver limits files timetable j p → IsProblemOver limits other timetable j p
  over timetable j p same a = grind (arith, same_cut_problem, same_feed_problem)

  fault_over : (timetable : SourceModel) (j : JourneyModel) (fault : Fault) → LoadAlike timetable j → IsProblemFaultOver limits files timetable j fault
      → IsProblemFaultOver limits other timetable j fault
  fault_over (CutFile path) j fault same is = sym (same_cut_fault path j same.0 same.1 (unread_input fault)) ∙ is
  fault_over (FeedFolder folder horizon) j fault same is = same_feed_fault folder same.0 horizon j same.1 fault is

  -- by the bytes
  by_bytes : (timetable : SourceModel) (j : JourneyModel) → AgreeAt (path_by timetable j no_path) files other → LoadAlike timetable j
  by_bytes (CutFile path) j same =
      (λ unread. ap (λ (f : Option (List ℕ)). cut_records limits unread f) (same input.Cut), λ unread. ap (λ (f : Option (List ℕ)). delay_records limits unread f) (same input.Delays))
  by_bytes (FeedFolder folder horizon) j same = (
    λ unread table. ap (λ (f : Option (List ℕ)). load_of unread limits table f) (same (input.Feed table)),
    λ unread. ap (λ (f : Option (List ℕ)). delay_records limits unread f) (same input.Delays),
  )

  pub own_problem : (j : JourneyModel) (p : Problem) → AgreeFor j files other → IsProblem limits files j p → IsProblem limits other j p
  own_problem j p same is = over j.timetable j p (by_bytes j.timetable j same) is

  pub own_fault : (j : JourneyModel) (fault : Fault) → AgreeFor j files other → IsProblemFault limits files j fault → IsProblemFault limits other j fault
  own_fault j fault same is = λ some. fault_over j.timetable j fault (by_bytes j.timetable j same) (is some)

  -- by the records
  by_records : (timetable : SourceModel) (j : JourneyModel) → ReadAlikeAt limits.bytes (path_by timetable j no_path) files other → LoadAlike timetable j
  by_records (CutFile path) j same = (
    λ unread. records_alike limits input.Cut _ unread (file_at files path) (file_at other path) (same input.Cut),
    λ unread. records_alike limits input.Delays _ unread (file_at files j.delays) (file_at other j.delays) (same input.Delays),
  )
  by_records (FeedFolder folder horizon) j same = (
    λ unread table. load_alike limits unread table (file_at files (path_of folder table)) (file_at other (path_of folder table)) (same (input.Feed table)),
    λ unread. records_alike limits input.Delays _ unread (file_at files j.delays) (file_at other j.delays) (same input.Delays),
  )

  pub problem_of_records : (j : JourneyModel) (p : Problem) → ReadAlike limits j files other → IsProblem limits files j p → IsProblem limits other j p
  problem_of_records j p same is = over j.timetable j p (by_records j.timetable j same) is

  pub fault_of_records : (j : JourneyModel) (fault : Fault) → ReadAlike limits j files other → IsProblemFault limits files j fault → IsProblemFault limits other j fault
  fault_of_records j fault same is = λ some. fault_over j.timetable j fault (by_records j.timetable j same) (is some)
