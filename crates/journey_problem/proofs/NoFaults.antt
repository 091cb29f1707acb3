-- Files of which a problem is made have no fault.
use Rattle.journey_problem.proofs.Common.{arith, unwrap_or, ◌≡◌, ℕ, refl, List, Option, Some, None, Result, Err, ◌≢◌, IsOkAnd, FileMap, file_at, Limits, FeedFault, unread_table, FeedParts}
use Rattle.journey_problem.proofs.Common.{Tables, IsFeedOf, place_of_stop, SourceModel, CutFile, FeedFolder, JourneyModel, source_or_target, Input, Fault, Read, NoMemory, unread_input}
use Rattle.journey_problem.proofs.Common.{cut_problem_fault, delay_fault, feed_as, GtfsFolder, IsFolder, IsFolderFault, IsLaterTableFault, IsFaultAfterFolder, IsWindowFault, IsFeedProblem}
use Rattle.journey_problem.proofs.{Common.{IsFeedProblemFault, feed_stop_fault, window_fault_of, IsProblem, IsProblemOver, IsProblemFault, IsProblemFaultOver}, OneFeed.one_feed_of}
use Rattle.journey_problem.proofs.OneFeedProblem.{one_folder, one_window_fault}
use Rattle.csv_rows.specs.declared.feed_tables.FeedFault.TheVariants as feed
use Rattle.journey_model.specs.declared.faults.Input.TheVariants as input

abbrev NotRead : Fault → Type 0
NotRead fault = (i : Input) → fault ≡ Read i → ⊥

pub none_unread : (fault : Fault) → ((i : Input) → fault ≡ Read i → ⊥) → unread_input fault ≡ None
none_unread fault n = grind arith

pub table_read : (limits : Limits) (g : FeedFault) → ((i : Input) → feed_as limits g ≡ Read i → ⊥) → unread_table g ≡ None
table_read limits (feed.Read table) n = absurd (n (input.Feed table) refl)
table_read limits g n = refl

not_both : {A : Type 0} (o : Option A) (x : A) → o ≡ None → o ≡ Some x → ⊥
not_both o x h k = cc

not_err : {A E : Type 0} (r : Result A E) (P : A → Type 0) (e : E) → IsOkAnd r P → r ≡ Err e → ⊥
not_err r P e h k = grind arith

pub not_feed : (r : Result Tables FeedFault) (f : FeedParts) (e : FeedFault) → IsFeedOf r f → r ≡ Err e → ⊥
not_feed r f e h k = grind arith

no_cut_fault : (limits : Limits) (files : FileMap) (path : List ℕ) (j : JourneyModel) (fault : Fault) → cut_problem_fault limits files path j None ≡ None
    → NotRead fault → cut_problem_fault limits files path j (unread_input fault) ≡ Some fault → ⊥
no_cut_fault limits files path j fault none n h = grind (arith, not_both, none_unread)

no_stop : (f : FeedParts) (from : Option (List ℕ)) (to : List ℕ) (a b : ℕ) (fault : Fault) → place_of_stop f (unwrap_or from to) ≡ Some a → place_of_stop f to ≡ Some b → feed_stop_fault f from to ≡ Some fault → ⊥
no_stop f from to a b fault h k e = grind arith

module _ (limits : Limits) (files : FileMap) (folder : List ℕ) (h : GtfsFolder) (is : IsFolder limits files folder h) where
  no_later : (f : FeedParts) (g : FeedFault) → f ≡ h.feed → unread_table g ≡ None → IsLaterTableFault limits files folder f g → ⊥
  no_later f g e u h = grind (arith, not_err)

  pub no_folder_fault : (g : FeedFault) → unread_table g ≡ None → IsFolderFault limits files folder g → ⊥
  no_folder_fault g u h = grind (arith, not_feed, no_later, one_feed_of)

no_window : (limits : Limits) (horizon : ℕ) (j : JourneyModel) (h : GtfsFolder) (a b : ℕ) (fault : Fault) → place_of_stop h.feed (source_or_target j) ≡ Some a → place_of_stop h.feed j.to ≡ Some b
    → window_fault_of limits horizon j h ≡ None → IsWindowFault limits horizon j h fault → ⊥
no_window limits horizon j h a b fault from to sound is = grind (arith, no_stop, not_both)

no_after : (limits : Limits) (files : FileMap) (horizon : ℕ) (j : JourneyModel) (h : GtfsFolder) (a b : ℕ) (fault : Fault) → NotRead fault → delay_fault limits (file_at files j.delays) None ≡ None
    → place_of_stop h.feed (source_or_target j) ≡ Some a → place_of_stop h.feed j.to ≡ Some b → window_fault_of limits horizon j h ≡ None
    → IsFaultAfterFolder limits files horizon j h fault → ⊥
no_after limits files horizon j h a b fault n none from to sound is = grind (arith, not_both, none_unread, no_window)

no_feed_fault : (limits : Limits) (files : FileMap) (folder : List ℕ) (horizon : ℕ) (j : JourneyModel) (p : _) (fault : Fault) → IsFeedProblem limits files folder horizon j p
    → NotRead fault → IsFeedProblemFault limits files folder horizon j fault → ⊥
no_feed_fault limits files folder horizon j p fault a n h = grind (arith, no_folder_fault, table_read, one_folder, one_window_fault, no_after)

no_fault_over : (limits : Limits) (files : FileMap) (timetable : SourceModel) (j : JourneyModel) (p : _) (fault : Fault) → IsProblemOver limits files timetable j p → NotRead fault
    → IsProblemFaultOver limits files timetable j fault → ⊥
no_fault_over limits files (CutFile path) j p fault a n why = no_cut_fault limits files path j fault a.no_fault n why
no_fault_over limits files (FeedFolder folder horizon) j p fault a n why = no_feed_fault limits files folder horizon j p fault a n why

pub no_fault : (limits : Limits) (files : FileMap) (j : JourneyModel) (p : _) (fault : Fault) → IsProblem limits files j p → ((i : Input) → fault ≡ Read i → ⊥) → fault ≢ NoMemory
    → IsProblemFault limits files j fault → ⊥
no_fault limits files j p fault a n m why = no_fault_over limits files j.timetable j p fault a n (why m)
