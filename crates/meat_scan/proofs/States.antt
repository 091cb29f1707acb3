-- What holds while the scan runs.
use Rattle.meat_scan.proofs.Common.{◌≡◌, ◌≢◌, ℕ, zero, suc, get_or, map, ◌+◌, ◌<◌, ◌≤◌, List, [], ◌∷◌, ◌++◌, length, Option, None, arith, sym, refl, ◌∙◌, ap, append_assoc, cond, Bool, All}
use Rattle.meat_scan.proofs.Common.{append-nil, nat_tests, common_steps, sum_by_push, ConnectionId, Leg, Outcome, Query, NetworkModel, count, from_of, run_of, IsValid, connection, dep_of}
use Rattle.meat_scan.proofs.Common.{IsScanOrder, IsPrefixUpTo, has_each_id, Known, Never, whole_order, next_of, all_known, Scoring, ScoreLaws, Row, ShownProfile, Exit, exits_next, rows_next}
use Rattle.meat_scan.proofs.Common.{start_next, alighted_by, boarding_exit, exits_with, rows_with, start_with, Kept, kept_in, kept_next, kept_after, FollowsRules, rows_of_profile, spare_at}
use Rattle.meat_scan.proofs.{Common.{exit_at, has_way, boardable, HasRoom, HasRoomFor, IsEmpty, ScanResult, found_rows, HasAnswers, All-tail, All-head, values_after}, ScanStep.ScanOk}
use Rattle.meat_scan.proofs.{ScanStep.scan_ok_step, Ends.{scan_ok_start, solves_end}}

-- functions that agree everywhere are one
pub same_function : {A B : Type 0} (f g : A → B) → ((x : A) → f x ≡ g x) → f ≡ g
same_function f g h = λ i x. h x i

-- the ids that are taken, and what is claimed of them
pub record ScanState {V : Type 0} (scoring : Scoring V) (network : NetworkModel) (query : Query) (order rest : List ConnectionId) (profiles : List (ShownProfile V))
    (exits : List (Option (Exit V))) (start : Option (V × Leg)) : Type 0 where
  pub taken : List ConnectionId
  pub split : rest ++ taken ≡ order
  pub ok : ScanOk scoring network query (Known Never taken) (length taken) (rows_of_profile profiles) (exit_at exits) start
  pub kept : kept_in profiles exits start ≡ kept_after scoring network query taken

-- what is kept, part for part
kept_same : {V : Type 0} {rows rows' : ℕ → List (Row V)} {exits exits' : ℕ → Option (Exit V)} {start start' : Option (V × Leg)} → rows ≡ rows'
    → exits ≡ exits' → start ≡ start' → ◌≡◌ {A = Kept V} (record { rows = rows; exits = exits; start = start }) (record { rows = rows'; exits = exits'; start = start' })
kept_same rows exits start = λ i. record { rows = rows i; exits = exits i; start = start i }

-- what the steps of one connection keep
pub kept_by : {V : Type 0} (scoring : Scoring V) (network : NetworkModel) (query : Query) (id : ConnectionId) (run : ℕ) (value : Option V) (exit : Option (Exit V))
    (profiles profiles' : List (ShownProfile V)) (exits exits' : List (Option (Exit V))) (start start' : Option (V × Leg)) → run ≡ run_of network id.0
    → value ≡ alighted_by scoring network query (rows_of_profile profiles) id.0
    → ((other : ℕ) → exit_at exits' other ≡ exits_with scoring id run value (exit_at exits) other)
    → exit ≡ boarding_exit network id.0 (exit_at exits')
    → ((place : ℕ) → rows_of_profile profiles' place ≡ rows_with scoring network query id.0 exit (rows_of_profile profiles) place)
    → start' ≡ start_with scoring network query id.0 exit start
    → kept_in profiles' exits' start' ≡ kept_next scoring network query id.0 (kept_in profiles exits start)
kept_by scoring network query id run value exit profiles profiles' exits exits' start start' run_is value_is exits_are exit_is rows_are start_is =
    let exits_same = same_function (exit_at exits') (λ other. exits_next scoring network query id.0 (rows_of_profile profiles) (exit_at exits) other)
    (λ other. rw (run_is, value_is) at (exits_are other)) in
    let boards = exit_is ∙ ap (boarding_exit network id.0) exits_same in
    grind (arith, kept_same, same_function)

module _ {V : Type 0} {scoring : Scoring V} (laws : ScoreLaws scoring) (network : NetworkModel) (good : IsValid network) (query : Query)
    (order : List ConnectionId) (whole : IsScanOrder network order) where
  -- one more
  pub next_state : (rest : List ConnectionId) (id : ConnectionId) (profiles profiles' : List (ShownProfile V)) (exits exits' : List (Option (Exit V)))
      (start start' : Option (V × Leg)) → ScanState scoring network query order
      (rest ++ id ∷ []) profiles exits start
      → kept_in profiles' exits' start' ≡ kept_next scoring network query id.0 (kept_in profiles exits start)
      → ScanState scoring network query order rest profiles' exits' start'
  next_state rest id profiles profiles' exits exits' start start' state kept_is =
      let known = Known Never (id ∷ state.taken) in
      let next = next_of network good Never order (whole_order network order whole) rest state.taken id state.split in
      let stepped = scan_ok_step laws network good query (Known Never state.taken) (length state.taken) id.0 next (rows_of_profile profiles) (exit_at exits) start state.ok in
      let count : length (id ∷ state.taken) ≡ length state.taken + 1 = omega arith in
      record {
        taken = id ∷ state.taken;
        split = sym (append_assoc rest (id ∷ []) state.taken) ∙ state.split;
        ok = rw (ap (λ (k : Kept V). k.rows) kept_is, ap (λ (k : Kept V). k.exits) kept_is, ap (λ (k : Kept V). k.start) kept_is, count) stepped;
        kept = kept_is ∙ ap (kept_next scoring network query id.0) state.kept;
      }

  -- after the last
  pub last_state : (rest : List ConnectionId) (profiles : List (ShownProfile V)) (exits : List (Option (Exit V))) (found : ScanResult V)
      → query.source.0 ≢ query.target.0 → rest ≡ [] → found_rows found ≡ rows_of_profile profiles
      → ScanState scoring network query order rest profiles exits found.start → HasAnswers scoring network query found
  last_state rest profiles exits found differ none rows_are state =
      let all_taken : state.taken ≡ order = ap (λ (ids : List ConnectionId). ids ++ state.taken) (sym none) ∙ state.split in
      let all_count : length state.taken ≡ count network = ap length all_taken ∙ (has_each_id network order whole).as_many in
      let known = all_known network good Never order (whole_order network order whole) rest state.taken none state.split in
      solves_end scoring network query (Known Never state.taken) known differ found (exit_at exits) (rw (rows_are, ← all_count) state.ok)

  -- what was found follows the rules
  pub rules_end : (rest : List ConnectionId) (profiles : List (ShownProfile V)) (exits : List (Option (Exit V))) (found : ScanResult V) → rest ≡ []
      → found_rows found ≡ rows_of_profile profiles
      → ScanState scoring network query order rest profiles exits found.start
      → FollowsRules scoring network query order found
  rules_end rest profiles exits found none rows_are state =
      let all_taken : state.taken ≡ order = ap (λ (ids : List ConnectionId). ids ++ state.taken) (sym none) ∙ state.split in
      let all_kept = state.kept ∙ ap (kept_after scoring network query) all_taken in
      record {
        rows = λ place. ap (λ (rows : ℕ → List (Row V)). rows place) rows_are ∙ ap (λ (kept : Kept V). kept.rows place) all_kept;
        start = ap (λ (kept : Kept V). kept.start) all_kept;
      }

-- the next id is one of the network's
pub id_there : (network : NetworkModel) → IsValid network → (order : List ConnectionId) → IsScanOrder network order → (rest taken : List ConnectionId) (id : ConnectionId)
    → (rest ++ id ∷ []) ++ taken ≡ order → id.0 < count network
id_there network good order whole rest taken id split = (next_of network good Never order (whole_order network order whole) rest taken id split).there

-- how many connections can be boarded from a place, with one more
boardable-push : (network : NetworkModel) (place : ℕ) (rest : List ConnectionId) (id : ConnectionId)
    → boardable network place (rest ++ id ∷ []) ≡ boardable network place rest + cond (has_way network place (from_of network id.0)) 1 0
boardable-push network place rest id = sum_by_push (λ (i : ConnectionId). cond (has_way network place (from_of network i.0)) 1 0) rest id

module _ {V : Type 0} (network : NetworkModel) (rest : List ConnectionId) (id : ConnectionId) (there : id.0 < count network) (profiles : List (ShownProfile V))
    (exits : List (Option (Exit V))) (room : HasRoom network (rest ++ id ∷ []) profiles exits) where
  pub room_for_run : run_of network id.0 < length exits
  room_for_run = room.runs id.0 there

  pub room_for_rows : HasRoomFor network id.0 profiles
  room_for_rows place inside = omega (arith, room.room place (omega (arith, room.places)), boardable-push network place rest id)

  pub room_next : (profiles' : List (ShownProfile V)) (exits' : List (Option (Exit V)))
      → ((place : ℕ) → spare_at profiles place ≤ spare_at profiles' place + cond (has_way network place (from_of network id.0)) 1 0)
      → length profiles' ≡ length profiles → length exits' ≡ length exits → HasRoom network rest profiles' exits'
  room_next profiles' exits' spare same_places same_runs = grind (arith, common_steps, nat_tests)

-- the rows that are found are those of the profiles
pub found_rows-profiles : {V : Type 0} (start : Option (V × Leg)) (target : ℕ) (profiles : List (ShownProfile V))
    → found_rows (record { start = start; rows = map (λ profile. profile.rows) profiles; target = target }) ≡ rows_of_profile profiles
found_rows-profiles {V} start target profiles = same_function _ (rows_of_profile profiles) (at profiles)
  where
    at : (some : List (ShownProfile V)) (place : ℕ) → get_or (map (λ profile. profile.rows) some) place [] ≡ rows_of_profile some place
    at [] place = refl
    at (profile ∷ more) zero = refl
    at (profile ∷ more) (suc place) = at more place

no_values : {V : Type 0} (arrived : ℕ → V) (target deadline : ℕ) (rows : ℕ → List (Row V)) (place scheduled : ℕ) (row : List Outcome) → 0 < length row
    → rows place ≡ [] → deadline < scheduled → values_after arrived target deadline rows place scheduled row ≡ None
no_values arrived target deadline rows place scheduled [] some none late = absurd (omega arith)
no_values {V} arrived target deadline rows place scheduled (outcome ∷ row) some none late = grind (arith, common_steps, nat_tests)

cond_none : {X : Type 0} (b : Bool) → cond {A = Option X} b None None ≡ None
cond_none b = grind arith

module _ {V : Type 0} (scoring : Scoring V) (network : NetworkModel)
    (good : IsValid network) (query : Query) (id : ℕ) (there : id < count network) (late : query.deadline.0 < dep_of network id)
    (rows : ℕ → List (Row V)) (exits : ℕ → Option (Exit V)) (no_rows : (place : ℕ) → rows place ≡ []) (no_exits : (run : ℕ) → exits run ≡ None) where
  -- no exit gives a value
  alighted_none : alighted_by scoring network query rows id ≡ None
  alighted_none = grind (arith, no_values, cond_none)

  pub exits_kept : (run : ℕ) → exits_next scoring network query id rows exits run ≡ exits run
  exits_kept run = rw alighted_none refl

  boarded_none : boarding_exit network id (exits_next scoring network query id rows exits) ≡ None
  boarded_none = rw (alighted_none, no_exits (run_of network id)) (cond_none (connection network id).can_board)

  pub rows_kept : (place : ℕ) → rows_next scoring network query id rows exits place ≡ rows place
  rows_kept place = rw boarded_none refl

  pub start_kept : (start : Option (V × Leg)) → start_next scoring network query id rows exits start ≡ start
  start_kept start = rw boarded_none refl

module _ {V : Type 0} {scoring : Scoring V} (laws : ScoreLaws scoring) (network : NetworkModel) (good : IsValid network) (query : Query)
    (order : List ConnectionId) (whole : IsScanOrder network order) (profiles : List (ShownProfile V)) (exits : List (Option (Exit V))) (empty : IsEmpty profiles exits) where
  -- after the skipped ones, by induction over them
  late_state : (rest skipped : List ConnectionId) → rest ++ skipped ≡ order → All (λ id. query.deadline.0 < dep_of network id.0) skipped
      → ScanState scoring network query order rest profiles exits None
  late_state rest [] split late = grind (arith, append-nil, scan_ok_start, kept_same, same_function)
  late_state rest (id ∷ skipped) split late =
      let before = late_state (rest ++ id ∷ []) skipped (append_assoc rest (id ∷ []) skipped ∙ split) (All-tail (λ (i : ConnectionId). query.deadline.0 < dep_of network i.0) id skipped late) in
      let after : query.deadline.0 < dep_of network id.0 = All-head (λ (i : ConnectionId). query.deadline.0 < dep_of network i.0) id skipped late in
      let there = id_there network good order whole rest before.taken id before.split in
      next_state laws network good query order whole rest id profiles profiles exits exits None None before
      (kept_same
      (same_function _ _ (λ place. sym (rows_kept scoring network good query id.0 there after (rows_of_profile profiles) (exit_at exits) empty.no_rows empty.no_exits place)))
      (same_function _ _ (λ run. sym (exits_kept scoring network good query id.0 there after (rows_of_profile profiles) (exit_at exits) empty.no_rows empty.no_exits run)))
      (sym (start_kept scoring network good query id.0 there after (rows_of_profile profiles) (exit_at exits) empty.no_rows empty.no_exits None)))

  -- where the scan begins
  pub skipped_state : (rest : List ConnectionId) → IsPrefixUpTo network query.deadline.0 order rest
      → ScanState scoring network query order rest profiles exits None
  skipped_state rest up_to = late_state rest up_to.skipped (sym up_to.split) up_to.late
