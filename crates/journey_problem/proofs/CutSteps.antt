-- The steps of reading a cut file, put together.
use Rattle.journey_problem.proofs.Common.{arith, ◌≡◌, ℕ, List, Option, Some, None, Result, ◌≢◌, IfOk, IfErr, OnOk, IfSome, FileMap, file_at, Limits, IsCutNetwork, CutParts, IsCutRead, DelayLists}
use Rattle.journey_problem.proofs.Common.{AreDelays, NameLists, NetworkModel, Timetable, JourneyModel, source_or_target, Input, Fault, NoMemory, IsFirst, MayBeUnread, unread_input, Problem}
use Rattle.journey_problem.proofs.Common.{Records, HasCut, cut_fault, delay_fault, IsCutOfSome, AreDelaysOf, stop_fault, cut_problem_fault, IsNamed, IsCutProblem, HasCutTimetable}
use Rattle.journey_model.specs.declared.faults.Input.TheVariants as input

-- what holds of a network and its names, holds of the problem of them
pub of_parts : (P : NetworkModel → NameLists → Type 0) (n : NetworkModel) (names : NameLists) (t : Timetable) → t.network ≡ n → t.names ≡ names → P n names
    → (p : Problem) → p.timetable ≡ t → P p.timetable.network p.timetable.names
of_parts P n names t network named h p is = grind arith

-- the network of a table that was read
abbrev pub IsNetworkOf : CutParts → DelayLists → Problem → Type 0
IsNetworkOf cut lists p =
    (table : Records) → IsCutRead table cut.runs cut.places cut.rows cut.keys → IsCutNetwork table lists p.timetable.network p.timetable.names

module _ (j : JourneyModel) (cut : CutParts) (lists : DelayLists) where
  -- the timetable of a cut file is that of some cut file
  pub cut_timetable : (r : Result Problem Fault) → IsCutOfSome cut → AreDelays lists → IfOk r (IsNetworkOf cut lists)
      → IfOk r (λ p. IsNamed p.timetable.names p.source.0 (source_or_target j)) → IfOk r (λ p. IsNamed p.timetable.names p.target.0 j.to)
      → IfOk r (HasCutTimetable j)
  cut_timetable r some are network source target = grind arith

  module _ (limits : Limits) (files : FileMap) where
    -- the problem of a cut file and a delay file
    pub cut_file_problem : (r : Result Problem Fault)
        → (delay_fault limits (file_at files j.delays) None ≡ None) × AreDelaysOf limits (file_at files j.delays) lists
        → IfOk r (IsNetworkOf cut lists)
        → IfOk r (λ p. IsNamed p.timetable.names p.source.0 (source_or_target j)) → IfOk r (λ p. IsNamed p.timetable.names p.target.0 j.to)
        → OnOk r (stop_fault cut.places j.from j.to ≡ None)
        → IfOk r (λ p. (path : List ℕ) → HasCut limits (file_at files path) cut → IsCutProblem limits files path j p)
    cut_file_problem r delays network source target stops = grind arith

    -- the fault of a stop after two files with none
    pub stop_first : (r : Result Problem Fault) → delay_fault limits (file_at files j.delays) None ≡ None
        → IfErr r (λ fault. fault ≢ NoMemory → stop_fault cut.places j.from j.to ≡ Some fault) → IfErr r (λ fault. unread_input fault ≡ None)
        → IfErr r (λ fault. (path : List ℕ) → HasCut limits (file_at files path) cut → IsFirst (cut_problem_fault limits files path j) fault)
    stop_first r delays why quiet = grind arith

-- the cut file has no fault where the delay file could not be read
no_fault_beside : (limits : Limits) (file : Option (List ℕ)) (u : Option Input)
    → IfSome u (λ other. other ≡ input.Delays) → cut_fault limits file None ≡ None → cut_fault limits file u ≡ None
no_fault_beside limits file u own none = grind arith

-- the fault of the delay file after a cut file with none
pub delay_first : (limits : Limits) (files : FileMap) (path : List ℕ) (j : JourneyModel) (cut : CutParts) (fault : Fault) → HasCut limits (file_at files path) cut
    → MayBeUnread input.Delays fault → IsFirst (delay_fault limits (file_at files j.delays)) fault → IsFirst (cut_problem_fault limits files path j) fault
delay_first limits files path j cut fault has own first = grind (arith, no_fault_beside)
