-- The files of a journey have one first fault.
use Rattle.run_laws.proofs.Common.{arith, ◌≡◌, ◌≢◌, ℕ, List, Option, None, Some, Result, Err, inl, inr, subst, ◌∙◌, FileMap, Limits, Table, FeedFault, unread_table, tables_in, SourceModel}
use Rattle.run_laws.proofs.Common.{CutFile, FeedFolder, JourneyModel, Input, Fault, Read, NoMemory, unread_input, GtfsFolder, IsFolderFault, IsWindowFault, IsFaultAfterFolder, IsFeedProblemFault}
use Rattle.run_laws.proofs.Common.{IsProblemFault, IsProblemFaultOver, none_unread, table_read, not_feed, no_folder_fault}
use Rattle.journey_problem.proofs.{OneFeed.one_feed_of, OneFeedProblem.{SameGtfsFolder, one_folder, one_window_fault}}

abbrev pub NotRead : Fault → Type 0
NotRead fault = (i : Input) → fault ≡ Read i → ⊥

one_some : {A : Type 0} (o : Option A) (a b : A) → o ≡ Some a → o ≡ Some b → a ≡ b
one_some o a b one two = cc

not_both : {A : Type 0} (o : Option A) (a : A) → o ≡ None → o ≡ Some a → ⊥
not_both o a none some = absurd (cc)

one_err : {A E : Type 0} (r : Result A E) (e f : E) → r ≡ Err e → r ≡ Err f → e ≡ f
one_err r e f one two = cc

module _ (limits : Limits) (files : FileMap) where
  -- where no file is unread
  quiet : (first : Option Input → Option Fault) (fault : Fault) → NotRead fault → first (unread_input fault) ≡ Some fault → first None ≡ Some fault
  quiet first fault never is = subst (λ (u : Option Input). first u ≡ Some fault) (none_unread fault never) is

  module _ (folder : List ℕ) where
    of_tables : (fault : FeedFault) → unread_table fault ≡ None → tables_in files folder limits (unread_table fault) ≡ Err fault → tables_in files folder limits None ≡ Err fault
    of_tables fault u is = subst (λ (t : Option Table). tables_in files folder limits t ≡ Err fault) u is

    one_table_fault : (a b : FeedFault) → unread_table a ≡ None → unread_table b ≡ None → IsFolderFault limits files folder a → IsFolderFault limits files folder b → a ≡ b
    one_table_fault a b u v h1 h = grind (arith, one_err, of_tables, not_feed, one_feed_of)

    module _ (horizon : ℕ) (j : JourneyModel) where
      one_window : (h g : GtfsFolder) (a b : Fault) → SameGtfsFolder h g → IsWindowFault limits horizon j h a → IsWindowFault limits horizon j g b → a ≡ b
      one_window h g a b same h1 given = grind (arith, one_some, not_both, one_window_fault)

      one_after : (h g : GtfsFolder) (a b : Fault) → SameGtfsFolder h g → NotRead a → NotRead b → IsFaultAfterFolder limits files horizon j h a → IsFaultAfterFolder limits files horizon j g b → a ≡ b
      one_after h g a b same m n (inl is) given = grind (arith, one_some, quiet, not_both)
      one_after h g a b same m n (inr (none, later)) (inl also) = grind (arith, not_both, quiet)
      one_after h g a b same m n (inr (none, later)) (inr (free, after)) = one_window h g a b same later after

      one_feed_fault : (a b : Fault) → NotRead a → NotRead b → IsFeedProblemFault limits files folder horizon j a → IsFeedProblemFault limits files folder horizon j b → a ≡ b
      one_feed_fault a b m n (inl (f, is, why)) (inl (g, also, whys)) = grind (arith, one_table_fault f g, table_read limits f, table_read limits g)
      one_feed_fault a b m n (inl (f, is, why)) (inr (h, folder_is, after)) = absurd (no_folder_fault limits files folder h folder_is f (table_read limits f (λ i e. m i (is ∙ e))) why)
      one_feed_fault a b m n (inr (h, folder_is, after)) (inl (g, also, whys)) = absurd (no_folder_fault limits files folder h folder_is g (table_read limits g (λ i e. n i (also ∙ e))) whys)
      one_feed_fault a b m n (inr (h, folder_is, after)) (inr (g, other_is, afters)) = one_after h g a b (one_folder limits files folder h g folder_is other_is) m n after afters

  one_over : (timetable : SourceModel) (j : JourneyModel) (a b : Fault) → NotRead a → NotRead b → IsProblemFaultOver limits files timetable j a → IsProblemFaultOver limits files timetable j b → a ≡ b
  one_over (CutFile path) j a b m n is also = grind (arith, one_some, quiet)
  one_over (FeedFolder folder horizon) j a b m n is also = one_feed_fault folder horizon j a b m n is also

  pub one_first_fault : (j : JourneyModel) (a b : Fault) → NotRead a → NotRead b → a ≢ NoMemory → b ≢ NoMemory → IsProblemFault limits files j a → IsProblemFault limits files j b → a ≡ b
  one_first_fault j a b m n some more is also = one_over j.timetable j a b m n (is some) (also more)
