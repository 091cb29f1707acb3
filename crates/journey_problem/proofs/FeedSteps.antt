-- The steps of reading a feed, put together.
use Rattle.journey_problem.proofs.Common.{arith, ◌≡◌, ℕ, List, Option, Some, None, Result, ◌≢◌, IfOk, IfErr, OnOk, IfSome, FileMap, file_at, Limits, place_of_stop, IsNetworkFrom, DelayLists}
use Rattle.journey_problem.proofs.Common.{AreDelays, JourneyModel, source_or_target, Input, Fault, NoMemory, Problem, MayBeUnread, unread_input, AreDelaysOf, delay_fault, GtfsFolder, IsFolder}
use Rattle.journey_problem.proofs.Common.{IsSoundFolder, IsWindowFault, IsFaultAfterFolder, IsFeedProblem, HasFeedTimetable, window_fault_of}

-- what holds of a known folder before and after a step that leaves it the same
pub if_some_both : {A : Type 0} (o later : Option A) {P Q R : A → Type 0} → later ≡ o → IfSome o P → IfSome later Q → ((a : A) → P a → Q a → R a) → IfSome o R
if_some_both o later same p q f = grind arith

-- a window of a feed is that of some feed
pub feed_timetable : (horizon : ℕ) (j : JourneyModel) (h : GtfsFolder) (lists : DelayLists) (r : Result Problem Fault)
    → IsSoundFolder h → AreDelays lists
    → IfOk r (λ p. IsNetworkFrom h.feed h.services h.changes lists j.start horizon p.timetable.network p.timetable.names)
    → IfOk r (λ p. place_of_stop h.feed (source_or_target j) ≡ Some p.source.0)
    → IfOk r (λ p. place_of_stop h.feed j.to ≡ Some p.target.0)
    → IfOk r (HasFeedTimetable horizon j)
feed_timetable horizon j h lists r sound are network source target = grind arith

module _ (limits : Limits) (files : FileMap) (horizon : ℕ) (j : JourneyModel) (h : GtfsFolder) (lists : DelayLists)
    (sound : delay_fault limits (file_at files j.delays) None ≡ None) (are : AreDelaysOf limits (file_at files j.delays) lists) where
  pub window_fault : (r : Result Problem Fault) → IfErr r (λ fault. fault ≢ NoMemory → IsWindowFault limits horizon j h fault)
      → IfErr r (λ fault. fault ≢ NoMemory → IsFaultAfterFolder limits files horizon j h fault)
  window_fault r f = grind arith

  pub window_problem : (r : Result Problem Fault)
      → IfOk r (λ p. IsNetworkFrom h.feed h.services h.changes lists j.start horizon p.timetable.network p.timetable.names)
      → OnOk r (window_fault_of limits horizon j h ≡ None)
      → IfOk r (λ p. place_of_stop h.feed (source_or_target j) ≡ Some p.source.0)
      → IfOk r (λ p. place_of_stop h.feed j.to ≡ Some p.target.0)
      → IfOk r (λ p. (folder : List ℕ) → IsFolder limits files folder h → IsFeedProblem limits files folder horizon j p)
  window_problem r network no_fault source target = grind arith

-- a step that reads nothing has no unread file
pub none_unread_of : {T : Type 0} (mine : Input) (r : Result T Fault) → IfErr r (λ fault. unread_input fault ≡ None) → IfErr r (MayBeUnread mine)
none_unread_of mine r quiet = grind arith
