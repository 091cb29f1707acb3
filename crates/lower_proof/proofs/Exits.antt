-- The least values of leaving the runs, over the connections that are scanned.
use Rattle.std.proofs.lemmas.Grind.{common_steps}
use Rattle.lower_proof.proofs.Common.{◌≡◌, ◌≢◌, ℕ, ◌<◌, ◌≤◌, List, [], ◌∷◌, ◌++◌, length, set, Option, Some, None, IsTrue, arith, inl, inr, sym, ◌∙◌, subst, refl, ◌+◌, length-set, ConnectionId}
use Rattle.lower_proof.proofs.Common.{Query, NetworkModel, count, connection, dep_of, run_of, IsValid, to_of, arr_of, outcomes, IsLeg, IsBoardable, bound_of, IsLeastOf, IsVia, IsLocal}
use Rattle.lower_proof.proofs.Common.{IsAccepted, IsLastFault, Offers, IsLeastAt, AreLeast, lesser, KeepsTo, exit_of, IsBestExit, Known, IsNext, forward, Departure, NoneAfter, AreDepartingBy}
use Rattle.lower_proof.proofs.{Common.{Outcome, boards_later}, Minima.get_or-set, Leasts.{least_with, least_same, least_is, IsLeastOf-unique, keeps_to_each, each_keeps_to}, Vias.least_via}
use Rattle.lower_proof.proofs.{Vias.no_via, Departing.{Late, IsRest, rest_first, rest_popped, next_popped, all_taken}}

-- one can leave the run by a known connection, for this value
pub record LeavesBy (n : NetworkModel) (q : Query) (values : List (Option ℕ)) (last : ℕ) (taken : List ConnectionId) (run v : ℕ) : Type 0 where
  pub exit : ℕ
  pub there : exit < count n
  pub known : Known (Late n last) taken exit
  pub of_run : run_of n exit ≡ run
  pub via : IsVia n q values exit v

-- each run has its least value
abbrev pub AreExits : NetworkModel → Query → List (Option ℕ) → ℕ → List ConnectionId → List (Option ℕ) → Type 0
AreExits n q values last taken exits = (run : ℕ) → IsLeastOf (LeavesBy n q values last taken run) (exit_of exits run)

-- the values of leaving after boarding a connection
abbrev pub Rides : NetworkModel → Query → List (Option ℕ) → ℕ → ℕ → Type 0
Rides n q values c v = (j : ℕ) × IsLeg n c j × IsVia n q values j v

module _ (n : NetworkModel) (q : Query) (values : List (Option ℕ)) (last : ℕ) (taken : List ConnectionId) (id : ConnectionId) (next : IsNext n (Known (Late n last) taken) id.0) where
  grown : (run v : ℕ) → LeavesBy n q values last taken run v → LeavesBy n q values last (id ∷ taken) run v
  grown run v by = record { exit = by.exit; there = by.there; known = inr by.known; of_run = by.of_run; via = by.via }

  -- the run of the connection
  pub own_run : (before via : Option ℕ) → IsLeastOf (LeavesBy n q values last taken (run_of n id.0)) before → IsLeastOf (IsVia n q values id.0) via
      → IsLeastOf (LeavesBy n q values last (id ∷ taken) (run_of n id.0)) (lesser before via)
  own_run before via least own = least_with (LeavesBy n q values last taken (run_of n id.0)) (LeavesBy n q values last (id ∷ taken) (run_of n id.0)) (grown (run_of n id.0)) before via least
      (λ v is. record { exit = id.0; there = next.there; known = inl refl; of_run = refl; via = least_is (IsVia n q values id.0) via v own is })
      (λ v by. elim by.known [
        | inl is ↦
            let here = subst (λ j. IsVia n q values j v) is by.via in
            inr (IsLeastOf-unique (IsVia n q values id.0) via (Some v) own (least_via n q values id.0 v here))
        | inr known ↦ inl (record { exit = by.exit; there = by.there; known = known; of_run = by.of_run; via = by.via })
      ])

  -- another run
  other_run : (run : ℕ) → run ≢ run_of n id.0 → (least : Option ℕ) → IsLeastOf (LeavesBy n q values last taken run) least → IsLeastOf (LeavesBy n q values last (id ∷ taken) run) least
  other_run run differ least = grind (arith, least_same, grown)

  -- a traveller who boards the connection can leave by the known ones of its run
  least_ride : IsTrue (connection n id.0).can_board → (best : Option ℕ) → IsLeastOf (LeavesBy n q values last (id ∷ taken) (run_of n id.0)) best → IsLeastOf (Rides n q values id.0) best
  least_ride board best = grind (arith, least_same)

-- ---- what is known while connections are scanned

-- those that remain, and of the others the least value of leaving each run
pub record IsScanned (n : NetworkModel) (q : Query) (values : List (Option ℕ)) (last : ℕ) (taken : List ConnectionId) (remaining : List Departure) (exits : List (Option ℕ)) : Type 0 where
  pub rest : IsRest n last remaining taken
  pub runs : (c : ℕ) → c < count n → run_of n c < length exits
  pub are_exits : AreExits n q values last taken exits

module _ (n : NetworkModel) (good : IsValid n) (q : Query) (values : List (Option ℕ)) (last : ℕ) (deadline : q.deadline.0 ≤ last) (none_after : NoneAfter n values last) where
  -- what departs later is no exit
  none_remain : (run v : ℕ) → LeavesBy n q values last [] run v → ⊥
  none_remain run v by =
      let forward = (good.connections by.exit by.there).forward in
      let late : last < dep_of n by.exit = by.known in
      no_via n good q values last deadline none_after by.exit v by.there (omega arith) by.via

  -- nor has it one
  pub none_rides : (c v : ℕ) → last < dep_of n c → Rides n q values c v → ⊥
  none_rides c v late ride =
      let later = forward n good c ride.0 ride.1 in
      no_via n good q values last deadline none_after ride.0 v ride.1.exit (omega arith) ride.2

  pub scanned_first : (entries : List Departure) (exits : List (Option ℕ)) → AreDepartingBy n last entries → ((c : ℕ) → c < count n → run_of n c < length exits)
      → ((run : ℕ) → exit_of exits run ≡ None) → IsScanned n q values last [] entries exits
  scanned_first entries exits are runs empty = record { rest = rest_first n last entries are; runs = runs; are_exits = λ run. rw (empty run) (none_remain run) }

-- one more is scanned
module _ {n : NetworkModel} (good : IsValid n) {q : Query} {values : List (Option ℕ)} {last : ℕ} {taken : List ConnectionId} {before : List Departure} {exits : List (Option ℕ)}
    (scanned : IsScanned n q values last taken before exits) (rest : List Departure) (e : Departure) (popped : before ≡ rest ++ e ∷ []) where
  pub scanned_is_next : IsNext n (Known (Late n last) taken) e.id.0
  scanned_is_next = next_popped n good last taken before rest e popped scanned.rest

  module _ {best : Option ℕ} (own : IsBestExit n q values exits e.id.0 best) where
    best_leaving : IsLeastOf (LeavesBy n q values last (e.id ∷ taken) (run_of n e.id.0)) best
    best_leaving = rw own.lesser_is (own_run n q values last taken e.id scanned_is_next (exit_of exits (run_of n e.id.0)) own.via (scanned.are_exits (run_of n e.id.0)) own.least)

    -- a traveller who boards it leaves at best for this value
    pub best_ride : IsTrue (connection n e.id.0).can_board → IsLeastOf (Rides n q values e.id.0) best
    best_ride board = least_ride n q values last taken e.id scanned_is_next board best best_leaving

    pub scanned_next : IsScanned n q values last (e.id ∷ taken) rest (set exits (run_of n e.id.0) best)
    scanned_next = grind (arith, common_steps, rest_popped, length-set, get_or-set, scanned_is_next, best_leaving, other_run)

-- ---- and while a check runs: the values that were scanned are kept to

pub record CheckState (n : NetworkModel) (q : Query) (values : List (Option ℕ)) (last : ℕ) (remaining : List Departure) (exits : List (Option ℕ)) : Type 0 where
  pub taken : List ConnectionId
  pub scanned : IsScanned n q values last taken remaining exits
  pub kept : (c : ℕ) → c < count n → Known (Late n last) taken c → IsTrue (connection n c).can_board → IsLocal n q values c

module _ {n : NetworkModel} (good : IsValid n) {q : Query} {values : List (Option ℕ)} {last : ℕ} where
  pub check_first : {entries : List Departure} {exits : List (Option ℕ)} → q.deadline.0 ≤ last → NoneAfter n values last → AreDepartingBy n last entries
      → ((c : ℕ) → c < count n → run_of n c < length exits) → ((run : ℕ) → exit_of exits run ≡ None) → CheckState n q values last entries exits
  check_first {entries} {exits} deadline none_after are runs empty = record {
    taken = [];
    scanned = scanned_first n good q values last deadline none_after entries exits are runs empty;
    kept = λ c there late board j v leg via. absurd (none_rides n good q values last deadline none_after c v late (j, leg, via));
  }

  module _ {before : List Departure} {exits : List (Option ℕ)} (state : CheckState n q values last before exits) (rest : List Departure) (e : Departure) (popped : before ≡ rest ++ e ∷ []) where
    pub check_there : e.id.0 < count n
    check_there = (scanned_is_next good state.scanned rest e popped).there

    module _ {best : Option ℕ} (own : IsBestExit n q values exits e.id.0 best) where
      pub check_next : (IsTrue (connection n e.id.0).can_board → KeepsTo (bound_of values e.id.0) best) → CheckState n q values last rest (set exits (run_of n e.id.0) best)
      check_next keeps = record {
        taken = e.id ∷ state.taken;
        scanned = scanned_next good state.scanned rest e popped own;
        kept = λ c there known board. elim known [
          | inl is ↦
              let board_id = subst (λ i. IsTrue (connection n i).can_board) is board in
              subst (IsLocal n q values) (sym is)
              (λ j v leg by. keeps_to_each (Rides n q values e.id.0) (bound_of values e.id.0) best (best_ride good state.scanned rest e popped own board_id) (keeps board_id) v (j, leg, by))
          | inr earlier ↦ state.kept c there earlier board
        ];
      }

      pub check_fails : IsTrue (connection n e.id.0).can_board → (KeepsTo (bound_of values e.id.0) best → ⊥) → IsLastFault n q values e.id.0
      check_fails board breaks = record {
        there = check_there;
        board = board;
        fault = λ is_local. breaks (each_keeps_to (Rides n q values e.id.0) (bound_of values e.id.0) best (best_ride good state.scanned rest e popped own board)
            (λ v ride. is_local ride.0 v ride.1 ride.2));
        last = λ d there board_d after. state.kept d there ((scanned_is_next good state.scanned rest e popped).after d there after) board_d;
      }

  pub check_last : {remaining : List Departure} {exits : List (Option ℕ)} → CheckState n q values last remaining exits → length remaining ≡ 0 → IsAccepted n q values
  check_last {remaining} state none c there board = state.kept c there (all_taken n good last state.taken remaining none state.scanned.rest c there) board

-- ---- values that agree for all connections that depart after a moment have the same least values from then on

-- both have the same value for each connection that departs later
abbrev pub Agree : NetworkModel → ℕ → List (Option ℕ) → List (Option ℕ) → Type 0
Agree n moment values others = (c : ℕ) → c < count n → moment < dep_of n c → bound_of values c ≡ bound_of others c

-- what is so by the one is so by the other, where that holds of any two that agree: they have the same least number that is so
same_least : (n : NetworkModel) (moment : ℕ) (P : List (Option ℕ) → ℕ → Type 0) →
    ((values others : List (Option ℕ)) → Agree n moment values others → (v : ℕ) → P values v → P others v)
    → (values others : List (Option ℕ)) → Agree n moment values others → (least : Option ℕ) → IsLeastOf (P values) least → IsLeastOf (P others) least
same_least n moment P each values others agree least = grind (arith, least_same)

module _ (n : NetworkModel) (good : IsValid n) (q : Query) (moment : ℕ) where
  offers_agree : (p x : ℕ) → moment ≤ x → (values others : List (Option ℕ)) → Agree n moment values others → (v : ℕ)
      → (c : ℕ) × Offers n values (IsBoardable n p x) c v → (c : ℕ) × Offers n others (IsBoardable n p x) c v
  offers_agree p x later values others agree v (c, offer) =
      let after = boards_later n good p x c offer.there offer.boards in
      (c, record { there = offer.there; board = offer.board; boards = offer.boards; value = sym (agree c offer.there (omega arith)) ∙ offer.value })

  module _ (values others : List (Option ℕ)) (agree : Agree n moment values others) where
    least_agrees : (p x : ℕ) → moment ≤ x → (least : Option ℕ) → IsLeastAt n q values p x least → IsLeastAt n q others p x least
    least_agrees p x later least is = record {
      at_target = is.at_target;
      elsewhere = λ away. same_least n moment (λ vs v. (c : ℕ) × Offers n vs (IsBoardable n p x) c v) (offers_agree p x later) values others agree least
          (is.elsewhere away);
    }

    all_agree : (p arrival : ℕ) → moment ≤ arrival → (row : List Outcome) (vs : List ℕ) → AreLeast n q values p arrival row vs → AreLeast n q others p arrival row vs
    all_agree p arrival later [] [] all = tt
    all_agree p arrival later (o ∷ row) (v ∷ vs) all = (least_agrees p (arrival + o.delay) (omega arith) (Some v) all.0, all_agree p arrival later row vs all.1)
    all_agree p arrival later _ _ all = absurd all

    via_agrees : (j v : ℕ) → moment ≤ arr_of n j → IsVia n q values j v → IsVia n q others j v
    via_agrees j v later via = record { leave = via.leave; least = via.least; are_least = all_agree (to_of n j) (arr_of n j) later (outcomes n j) via.least via.are_least; mean = via.mean }

module _ (n : NetworkModel) (good : IsValid n) (q : Query) (last : ℕ) (taken : List ConnectionId) (id : ConnectionId) (next : IsNext n (Known (Late n last) taken) id.0) where
  known_later : (c : ℕ) → c < count n → Known (Late n last) (id ∷ taken) c → dep_of n id.0 ≤ dep_of n c
  known_later c there known = grind arith

  module _ (values others : List (Option ℕ)) (agree : Agree n (dep_of n id.0) values others) where
    pub rides_agree : (c : ℕ) → c < count n → Known (Late n last) (id ∷ taken) c → (least : Option ℕ) → IsLeastOf (Rides n q values c) least → IsLeastOf (Rides n q others c) least
    rides_agree c there known = same_least n (dep_of n id.0) (λ vs. Rides n q vs c) (λ a b agree v ride.
        let on = forward n good c ride.0 ride.1 in
        let later = known_later c there known in
        (ride.0, ride.1, via_agrees n good q (dep_of n id.0) a b agree ride.0 v (omega arith) ride.2)) values others agree

    pub scanned_agrees : {remaining : List Departure} {exits : List (Option ℕ)} → IsScanned n q values last (id ∷ taken) remaining exits → IsScanned n q others last (id ∷ taken) remaining exits
    scanned_agrees {remaining} {exits} scanned = record {
      rest = scanned.rest;
      runs = scanned.runs;
      are_exits = λ run. same_least n (dep_of n id.0) (λ vs. LeavesBy n q vs last (id ∷ taken) run) (λ a b agree v by.
          let on = (good.connections by.exit by.there).forward in
          let later = known_later by.exit by.there by.known in
          let via = via_agrees n good q (dep_of n id.0) a b agree by.exit v (omega arith) by.via in
          record { exit = by.exit; there = by.there; known = by.known; of_run = by.of_run; via = via }) values others agree (exit_of exits run)
          (scanned.are_exits run);
    }
