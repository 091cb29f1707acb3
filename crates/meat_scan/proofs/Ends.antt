-- When all connections are scanned.
use Rattle.meat_scan.proofs.Common.{◌≡◌, ◌≢◌, ℕ, zero, suc, ◌+◌, ◌-◌, ◌<◌, ◌≤◌, List, [], ◌∷◌, Option, Some, None, MatchOption, arith, sym, refl, inl, inr, ◌∙◌, ap, option_map, common_steps}
use Rattle.meat_scan.proofs.Common.{cases_lt, nat_tests, Leg, Outcome, Query, NetworkModel, count, to_of, arr_of, outcomes, Tree, Kids, Done, Ride, Stuck, Nil, Kid, height, height_of, IsSafe}
use Rattle.meat_scan.proofs.Common.{AreSafe, IsSafeFor, end_of, kids_after, ride_of, ride_or_stuck, unfold_after, unfold_from, by_place, Scoring, Row, row_in_time, Exit, ScanResult, found_rows}
use Rattle.meat_scan.proofs.{Common.{leg_choice, chosen_at, chosen_by, IsSafeAt, HasAnswers, SolvesEach, IsStartAnswer, SolvesStart, picked_in_time}, Ways.boards-limit_of, Claims.IsChosen}
use Rattle.meat_scan.proofs.{Claims.{ChosenChildren, by_ride, PlaceOk}, Starts.StartOk, ScanStep.ScanOk}

-- the row that is picked stays picked up to its `by`
picked_still : {V : Type 0} (rows : List (Row V)) (arrival later : ℕ) (row : Row V) → row_in_time arrival rows ≡ Some row → arrival ≤ later → later ≤ row.by.0 → row_in_time later rows ≡ Some row
picked_still {V} [] arrival later row is after in_time = absurd (cc)
picked_still {V} (head ∷ rows) arrival later row is after in_time = elim (cases_lt head.by.0 arrival) [
  | inl late ↦
      let here : row_in_time arrival (head ∷ rows) ≡ row_in_time arrival rows = grind (arith, nat_tests) in
      grind (arith, nat_tests, picked_still rows arrival later row (sym here ∙ is) after in_time)
  | inr early ↦ grind (arith, nat_tests)
]

-- a map of a map of an option
option_map-option_map : {V : Type 0} (o : Option (Row V)) → option_map (λ (choice : V × Leg). choice.1) (option_map (λ (row : Row V). (row.value, row.leg)) o) ≡ option_map (λ row. row.leg) o
option_map-option_map o = grind arith

module _ {V : Type 0} (n : NetworkModel) (target deadline : ℕ) (choice : ℕ → ℕ → Option Leg) (rows : ℕ → List (Row V))
    (by_rows : (place arrival : ℕ) → choice place arrival ≡ option_map (λ row. row.leg) (row_in_time arrival (rows place))) where
  -- what is unfolded after a leg, over this many rides
  abbrev after_leg : ℕ → Leg → ℕ → Tree
  after_leg rides leg arrival = unfold_after n target (by_place n choice) rides leg arrival

  -- the ride of a leg, by what its children are
  ride_of-children : (enter exit : ℕ) (kids : Kids) (rides : ℕ) (leg : Leg) → leg.enter.0 ≡ enter → leg.exit.0 ≡ exit
      → kids_after (after_leg rides leg) (arr_of n exit) (outcomes n exit) ≡ kids → ride_of n (after_leg rides) leg ≡ Ride enter exit kids
  ride_of-children enter exit kids rides leg enters exits same = grind (arith, common_steps, nat_tests)

  mutual
    -- a chosen and safe tree of at most this many rides is what is unfolded
    pub unfold_after-chosen : (tree : Tree) (rides : ℕ) (leg : Leg) (place arrival : ℕ) → end_of n leg ≡ place → height tree ≤ rides
        → IsSafe n target (Some deadline) tree place arrival → IsChosen n target rows tree place arrival → after_leg rides leg arrival ≡ tree
    unfold_after-chosen (Done moment) zero leg place arrival ends low safe is = grind (arith, nat_tests)
    unfold_after-chosen (Done moment) (suc rides) leg place arrival ends low safe is = grind (arith, nat_tests)
    unfold_after-chosen (Ride enter exit kids) zero leg place arrival ends low safe is = absurd (omega arith)
    unfold_after-chosen (Ride enter exit kids) (suc rides) leg place arrival ends low safe is =
        let away : end_of n leg ≢ target = λ at. is.0 (sym ends ∙ at) in
        let e : after_leg (suc rides) leg arrival ≡ ride_or_stuck n (after_leg rides) (by_place n choice leg arrival) (end_of n leg) arrival = grind (arith, nat_tests) in
        let picks : by_place n choice leg arrival ≡ Some is.1.row.leg = ap (λ p. choice p arrival) ends ∙ by_rows place arrival ∙ ap (option_map (λ row. row.leg)) is.1.is_picked in
        e ∙ ap (λ (first : Option Leg). ride_or_stuck n (after_leg rides) first (end_of n leg) arrival) picks
        ∙ ride_of-children enter exit kids rides is.1.row.leg is.1.enters is.1.exits
        (children_after-chosen kids rides is.1.row.leg (outcomes n exit) (to_of n exit) (arr_of n exit) (ap (to_of n) is.1.exits) (omega arith) safe.3 is.2)
    unfold_after-chosen (Stuck at moment) rides leg place arrival ends low safe is = absurd is

    pub children_after-chosen : (kids : Kids) (rides : ℕ) (leg : Leg) (row : List Outcome) (place scheduled : ℕ) → end_of n leg ≡ place
        → height_of kids ≤ rides → AreSafe n target (Some deadline) kids row place scheduled → ChosenChildren n target rows kids row place scheduled
        → kids_after (after_leg rides leg) scheduled row ≡ kids
    children_after-chosen Nil rides leg [] place scheduled ends low safe is = refl
    children_after-chosen (Kid weight tree kids) rides leg (o ∷ row) place scheduled ends low safe is =
        ap (λ w. Kid w (after_leg rides leg (scheduled + o.delay)) (kids_after (after_leg rides leg) scheduled row)) (sym safe.0)
        ∙ ap (λ t. Kid weight t (kids_after (after_leg rides leg) scheduled row)) (unfold_after-chosen tree rides leg place (scheduled + o.delay) ends (omega arith) safe.1 is.0)
        ∙ ap (Kid weight tree) (children_after-chosen kids rides leg row place scheduled ends (omega arith) safe.2 is.1)
    children_after-chosen Nil rides leg (o ∷ row) place scheduled ends low safe is = absurd is
    children_after-chosen (Kid weight tree kids) rides leg [] place scheduled ends low safe is = absurd is

  -- the ride of a first leg from elsewhere than the target
  pub unfold_from-chosen : (enter exit : ℕ) (kids : Kids) (leg : Leg) (place arrival : ℕ) → place ≢ target → leg.enter.0 ≡ enter → leg.exit.0 ≡ exit
      → height_of kids + 1 ≤ count n → AreSafe n target (Some deadline) kids (outcomes n exit) (to_of n exit) (arr_of n exit)
      → ChosenChildren n target rows kids (outcomes n exit) (to_of n exit) (arr_of n exit)
      → unfold_from n target (by_place n choice) (Some leg) place arrival ≡ Ride enter exit kids
  unfold_from-chosen enter exit kids leg place arrival away enters exits low safe is =
      let e : unfold_from n target (by_place n choice) (Some leg) place arrival ≡ ride_of n (after_leg (count n - 1)) leg = grind (arith, nat_tests) in
      grind (arith, ride_of-children, children_after-chosen)

module _ {V : Type 0} (scoring : Scoring V) (n : NetworkModel) (q : Query) (scanned : ℕ → Type 0)
    (all : (id : ℕ) → id < count n → scanned id) (differ : q.source.0 ≢ q.target.0) (found : ScanResult V) (exits : ℕ → Option (Exit V))
    (ok : ScanOk scoring n q scanned (count n) (found_rows found) exits found.start) where
  -- the leg of the row that is picked
  leg_choice-row_in_time : (place arrival : ℕ) → leg_choice found place arrival ≡ option_map (λ row. row.leg) (row_in_time arrival (found_rows found place))
  leg_choice-row_in_time place arrival = option_map-option_map (row_in_time arrival (found_rows found place))

  answers : (place arrival : ℕ) → place ≢ q.target.0 → (o : Option (Row V)) → row_in_time arrival (found_rows found place) ≡ o
      → PlaceOk scoring n q.target.0 q.deadline.0 scanned (found_rows found) (count n) place arrival o
      → MatchOption (option_map (λ row. (row.value, row.leg)) o) ((tree : Tree) → IsSafeAt n q place arrival tree → ⊥) (SolvesEach scoring n q found place arrival)
  answers place arrival away None is claim =
      by_ride (IsSafeAt n q place arrival) (λ moment safe. away safe.1) (λ at moment safe. safe) (λ tree. ⊥)
      (λ enter exit others safe. claim enter (all enter safe.1.enter) exit others safe)
  answers place arrival away (Some row) is (limit, claim) =
      let tree = Ride row.leg.enter.0 row.leg.exit.0 claim.kids in
      let in_time = picked_in_time arrival (found_rows found place) row is in
      let safe : IsSafeAt n q place arrival tree = (away, claim.is_leg, boards-limit_of n place arrival row.by.0 row.leg limit in_time, claim.safe) in
      let chooses : (later : ℕ) → row_in_time later (found_rows found place) ≡ Some row
      → leg_choice found place later ≡ Some row.leg = λ later there. leg_choice-row_in_time place later ∙ ap (option_map (λ row. row.leg)) there in
      let chosen_is : chosen_at n q found place arrival ≡ tree =
      ap (λ (first : Option Leg). unfold_from n q.target.0 (by_place n (leg_choice found)) first place arrival) (chooses arrival is)
      ∙ unfold_from-chosen n q.target.0 q.deadline.0 (leg_choice found)
      (found_rows found) leg_choice-row_in_time row.leg.enter.0 row.leg.exit.0 claim.kids row.leg place arrival away refl refl claim.low claim.safe claim.chosen in
      record {
        safe = rw chosen_is safe;
        covers_chosen = rw chosen_is claim.covers_ride;
        below_safe = by_ride (IsSafeAt n q place arrival) (λ moment safe. away safe.1) (λ at moment safe. safe) (scoring.below row.value)
            (λ enter exit others safe. claim.below_all enter (all enter safe.1.enter) exit others safe);
        gap_within = claim.gap_within;
        kept = record {
          limit = row.by.0;
          is_limit = limit;
          in_time = in_time;
          kept = λ later after before. chooses later (picked_still (found_rows found place) arrival later row is after before);
        };
      }

  start_answers : (o : Option (V × Leg)) → StartOk scoring n q scanned (found_rows found) (count n) o
      → MatchOption o ((tree : Tree) → IsSafeFor n q tree → ⊥) (IsStartAnswer scoring n q found)
  start_answers None claim =
      by_ride (IsSafeFor n q) (λ moment safe. differ safe.1) (λ at moment safe. safe) (λ tree. ⊥)
      (λ enter exit others safe. claim enter (all enter safe.1.enter) exit others safe)
  start_answers (Some begin) (boards, claim) =
      let tree = Ride begin.1.enter.0 begin.1.exit.0 claim.kids in
      let tree_is : chosen_by n q found begin.1 ≡ tree = unfold_from-chosen n q.target.0 q.deadline.0 (leg_choice found)
      (found_rows found) leg_choice-row_in_time begin.1.enter.0 begin.1.exit.0 claim.kids begin.1 q.source.0 q.start.0 differ refl refl claim.low
      claim.safe claim.chosen in
      grind (arith, by_ride)

  -- the scan's answers
  pub solves_end : HasAnswers scoring n q found
  solves_end = grind (arith, start_answers, answers)

-- before any connection is scanned
module _ {V : Type 0} (scoring : Scoring V) (network : NetworkModel) (query : Query) (scanned : ℕ → Type 0)
    (none : (id : ℕ) → scanned id → ⊥) (rows : ℕ → List (Row V)) (empty : (place : ℕ) → rows place ≡ []) (exits : ℕ → Option (Exit V))
    (no_exits : (run : ℕ) → exits run ≡ None) where
  pub scan_ok_start : ScanOk scoring network query scanned 0 rows exits None
  scan_ok_start = grind (arith, common_steps, nat_tests)

pub value_solved : {V : Type 0} (scoring : Scoring V) (n : NetworkModel) (q : Query) (found : ScanResult V) (start : Option (V × Leg))
    (value : Option V) → MatchOption start ((tree : Tree) → IsSafeFor n q tree → ⊥) (IsStartAnswer scoring n q found)
    → value ≡ option_map (λ s. s.0) start → SolvesStart scoring n q value
value_solved scoring n q found start value answer is = grind (arith, common_steps, nat_tests)
