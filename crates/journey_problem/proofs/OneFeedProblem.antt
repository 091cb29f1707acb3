-- A folder with a delay file has one problem.
use Rattle.journey_problem.proofs.Common.{◌≡◌, ℕ, refl, sym, ap, ◌∙◌, subst, arith, List, Some, Result, IsOkAnd, cases_lt, FileMap, file_at, Limits, FeedFault, DelayLists, FeedParts}
use Rattle.journey_problem.proofs.Common.{ServiceParts, runs, Calendars, RunsBy, ChangeParts, AreCollectedChanges, place_seconds, links_of, place_of_stop, IsNetworkFrom, JourneyModel}
use Rattle.journey_problem.proofs.{Common.{source_or_target, Problem, AreDelaysOf, GtfsFolder, IsFolder, IsFeedProblem, window_fault_of}, OneCutProblem.delays_of_one, OneFeed.one_feed_of}
use Rattle.journey_problem.proofs.{SameProblem.same_problem, OneWindow.{SameDays, same_count, same_entries, one_window}}
use Rattle.std.proofs.lemmas.List.{get_or_past}
use Rattle.table_files.specs.Loading.{Records}

-- two folders as they are read: one feed, services that run on the same days, and the same change times and links
pub record SameGtfsFolder (g h : GtfsFolder) : Type 0 where
  pub feed : g.feed ≡ h.feed
  pub days : SameDays g.services h.services
  pub changes : (place : ℕ) → place_seconds g.changes place ≡ place_seconds h.changes place
  pub links : (place : ℕ) → links_of g.changes place ≡ links_of h.changes place

same_days : (r : Result Calendars FeedFault) (s t : ServiceParts) → IsOkAnd r (RunsBy (runs s)) → IsOkAnd r (RunsBy (runs t)) → SameDays s t
same_days r s t a b = grind arith

same_changes : (r : Result Records FeedFault) (f : FeedParts) (c d : ChangeParts) → IsOkAnd r (AreCollectedChanges f c) → IsOkAnd r (AreCollectedChanges f d) → (place : ℕ)
    → place_seconds c place ≡ place_seconds d place
same_changes r f c d a b = grind arith

same_links : (r : Result Records FeedFault) (f : FeedParts) (c d : ChangeParts) → IsOkAnd r (AreCollectedChanges f c) → IsOkAnd r (AreCollectedChanges f d) → (place : ℕ) → links_of c place ≡ links_of d place
same_links r f c d a b = grind (arith, get_or_past, cases_lt)

module _ (limits : Limits) (files : FileMap) (folder : List ℕ) where
  -- a folder is read in one way
  pub one_folder : (g h : GtfsFolder) → IsFolder limits files folder g → IsFolder limits files folder h → SameGtfsFolder g h
  one_folder g h a b = grind (arith, one_feed_of, same_days, same_changes, same_links)

  one_place : (f g : FeedParts) → f ≡ g → (id : List ℕ) (a b : ℕ) → place_of_stop f id ≡ Some a → place_of_stop g id ≡ Some b → a ≡ b
  one_place f g e id a b h k = let l : Some a ≡ Some b = sym h ∙ ap (λ (x : FeedParts). place_of_stop x id) e ∙ k in cc

  -- the window has one first fault
  pub one_window_fault : (horizon : ℕ) (j : JourneyModel) (g h : GtfsFolder) → SameGtfsFolder g h → window_fault_of limits horizon j g ≡ window_fault_of limits horizon j h
  one_window_fault horizon j g h s = grind (arith, same_count, same_entries)

  -- journeys with one delay file and one start
  module _ (horizon : ℕ) (j i : JourneyModel) (p q : Problem) (delays : i.delays ≡ j.delays) (start : i.start ≡ j.start)
      (a : IsFeedProblem limits files folder horizon j p) (b : IsFeedProblem limits files folder horizon i q) where
    one_folder_of : SameGtfsFolder a.parts b.parts
    one_folder_of = one_folder a.parts b.parts a.is_folder b.is_folder

    pub one_feed_timetable : (p.timetable.network ≡ q.timetable.network) × (p.timetable.names ≡ q.timetable.names)
    one_feed_timetable =
        let lists : a.lists ≡ b.lists = delays_of_one limits (file_at files j.delays) a.lists b.lists a.are_delays
        (subst (λ (at : List ℕ). AreDelaysOf limits (file_at files at) b.lists) delays b.are_delays) in
        let here : IsNetworkFrom b.parts.feed b.parts.services b.parts.changes b.lists j.start horizon q.timetable.network q.timetable.names
        = subst (λ (from : ℕ). IsNetworkFrom b.parts.feed b.parts.services b.parts.changes b.lists from horizon q.timetable.network q.timetable.names) start b.timetable.is_network in
        let other : IsNetworkFrom a.parts.feed b.parts.services b.parts.changes a.lists j.start horizon q.timetable.network q.timetable.names
        = subst (λ (f : FeedParts). IsNetworkFrom f b.parts.services b.parts.changes a.lists j.start horizon q.timetable.network q.timetable.names) (sym one_folder_of.feed)
        (subst (λ (d : DelayLists). IsNetworkFrom b.parts.feed b.parts.services b.parts.changes d j.start horizon q.timetable.network q.timetable.names) (sym lists) here) in
        one_window a.parts.feed a.parts.services b.parts.services a.parts.changes b.parts.changes a.lists j.start horizon one_folder_of.days one_folder_of.changes one_folder_of.links
        p.timetable.network q.timetable.network p.timetable.names q.timetable.names a.timetable.is_network other

    -- a stop has one place
    pub one_feed_stop : (name same : List ℕ) → same ≡ name → (x y : ℕ) → place_of_stop a.parts.feed name ≡ Some x → place_of_stop b.parts.feed same ≡ Some y → x ≡ y
    one_feed_stop name same is x y here there = grind (arith, one_place)

  -- a folder and a delay file have one problem of a journey
  pub one_feed_problem : (horizon : ℕ) (j : JourneyModel) (p q : _) → IsFeedProblem limits files folder horizon j p → IsFeedProblem limits files folder horizon j q → p ≡ q
  one_feed_problem horizon j p q a b =
      let source = one_feed_stop horizon j j p q refl refl a b (source_or_target j) (source_or_target j) refl p.source.0 q.source.0 a.timetable.source b.timetable.source in
      let target = one_feed_stop horizon j j p q refl refl a b j.to j.to refl p.target.0 q.target.0 a.timetable.target b.timetable.target in
      let w = one_feed_timetable horizon j j p q refl refl a b in
      same_problem p q w.0 w.1 (λ i. record { 0 = source i }) (λ i. record { 0 = target i })
