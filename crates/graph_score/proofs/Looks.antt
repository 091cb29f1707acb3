-- What is known of the exits that were looked at, the last ones first.
use Rattle.graph_score.proofs.Common.{◌≡◌, ◌≢◌, ℕ, zero, suc, ◌+◌, ◌-◌, ◌<◌, ◌≤◌, false, List, [], ◌∷◌, ◌++◌, length, set, Option, Some, None, All, Contains, arith, sym, subst, refl, inl, inr}
use Rattle.graph_score.proofs.Common.{◌∙◌, ap, append_assoc, slice_index_or, ◌==◌, get_or-set_other, get_or-set_same, append-nil, length-set, cases_lt, cases_eq, nat_tests, All-contains}
use Rattle.graph_score.proofs.Common.{Contains-append_right, Departure, Leg, Outcome, Query, NetworkModel, IsValid, count, dep_of, arr_of, EachKid, departure_of, Tree, Done, Stuck, end_of}
use Rattle.graph_score.proofs.Common.{kids_after, boards_later, Contains-cons_cases, Contains-from_map, PlaceTable, PlanGraph, pick_at, rows_of_place, IsLegOf, rows_of_place-by, row_of_pick}
use Rattle.graph_score.proofs.Common.{GraphLeg, Outlook, Failing, exit_of, AreExits, IsFitLeg, legs_of, AreFitRows, AreOutlooks, IsOutlook, arrived_outlook, by_leg, failure, no_outlook}
use Rattle.graph_score.proofs.{Common.{outlook_at, outlook_of, outlooks_after, ride_by_rows}, ExitLemmas.{later, later_few, later_fewer, later_taken}, Failures.blend_reported}
use Rattle.graph_score.proofs.{GraphLegs.{each_row_of, rows_fit}, Trees.{taken_row, next_after, after-there, after-stuck, after-ride}}

-- where source and target are one place, or one has arrived
pub arrived_reported : (n : NetworkModel) (q : Query) (p x : ℕ) → p ≡ q.target.0 → IsOutlook n q (arrived_outlook q.deadline.0 p x) (Done x)
arrived_reported n q p x there = grind (arith, cases_lt)

-- one who is stuck
pub stuck_reported : (n : NetworkModel) (q : Query) (p x : ℕ) → IsOutlook n q (Failing (failure p x)) (Stuck p x)
stuck_reported n q p x = record { fails = (refl, refl); first = λ r y fails. inr (sym fails.1, omega (arith, fails.0)) }

-- each row's leg ends with one of these
abbrev pub AreAmong : NetworkModel → List Departure → List PlaceTable → Type 0
AreAmong n exits tables = All (λ table. All (λ row. Contains exits (departure_of n row.leg.exit)) table.rows) tables

-- of each exit that was looked at it is known what comes of it, over enough rides
abbrev AreRight : NetworkModel → Query → List PlaceTable → List Outlook → List Departure → Type 0
AreRight n q tables outlooks taken = (leg : Leg) (rides : ℕ) → Contains taken (departure_of n leg.exit) → later n leg.exit.0 ≤ rides
    → IsOutlook n q (slice_index_or outlooks leg.exit.0 no_outlook) (ride_by_rows n q tables rides leg)

-- the rest of the exits was not looked at
pub record AreCollected (n : NetworkModel) (q : Query) (tables : List PlaceTable) (exits rest : List Departure) (outlooks : List Outlook) : Type 0 where
  pub taken : List Departure
  pub split : rest ++ taken ≡ exits
  pub as_many : length outlooks ≡ count n
  pub right : AreRight n q tables outlooks taken

module _ (n : NetworkModel) (valid : IsValid n) (q : Query) (tables : List PlaceTable) (fit : AreFitRows n tables) where
  module _ {legs : List GraphLeg} (exits : List Departure) (whole : AreExits n legs exits) (among : AreAmong n exits tables) where
    -- what comes of an arrival after the next exit
    arrival_reported : (outlooks : List Outlook) (rest taken : List Departure) (exit : Departure) → (rest ++ exit ∷ []) ++ taken ≡ exits → exit ≡ departure_of n exit.id → exit.id.0 < count n
        → AreRight n q tables outlooks taken
        → (leg : Leg) (rides x : ℕ) → leg.exit ≡ exit.id → later n exit.id.0 ≤ rides → arr_of n exit.id.0 ≤ x
        → IsOutlook n q (outlook_at tables q outlooks (end_of n leg) x) (next_after n q tables fit rides leg x)
    arrival_reported outlooks rest taken exit split is there right leg rides x of_exit enough late = elim (cases_eq (end_of n leg) q.target.0) [
      | inl here ↦ grind (arith, nat_tests, after-there, arrived_reported)
      | inr away ↦
          let e : (end_of n leg == q.target.0) ≡ false = grind (arith, nat_tests) in
          rw e (by_next rides enough away (pick_at tables (end_of n leg) x) refl)
    ]
      where
        onward_in : (next : Leg) → IsLegOf n next → dep_of n next.enter.0 ≤ dep_of n next.exit.0
        onward_in next is_leg = elim (cases_lt next.enter.0 next.exit.0) [
          | inl less ↦ omega (arith, valid.onward next.enter.0 next.exit.0 less is_leg.exit is_leg.one_run, (valid.connections next.enter.0 is_leg.enter).forward)
          | inr more ↦ grind (arith, cases_eq)
        ]

        -- the next leg departs later, and ends with an exit that was looked at
        over : (rides : ℕ) → later n exit.id.0 ≤ rides → end_of n leg ≢ q.target.0 → (next : Leg) → pick_at tables (end_of n leg) x ≡ Some next
            → next.exit.0 < count n → dep_of n exit.id.0 < dep_of n next.exit.0 → Contains taken (departure_of n next.exit)
            → IsOutlook n q (slice_index_or outlooks next.exit.0 no_outlook) (next_after n q tables fit rides leg x)
        over zero enough away next picks inside after known = absurd (omega (arith, later_fewer n exit.id.0 next.exit.0 inside after, enough))
        over (suc rides) enough away next picks inside after known = subst (IsOutlook n q (slice_index_or outlooks next.exit.0 no_outlook))
            (sym (after-ride n q tables fit rides leg x next away picks)) (right next rides known (omega (arith, later_fewer n exit.id.0 next.exit.0 inside after, enough)))

        by_next : (rides : ℕ) → later n exit.id.0 ≤ rides → end_of n leg ≢ q.target.0 → (next : Option Leg) → pick_at tables (end_of n leg) x ≡ next
            → IsOutlook n q (by_leg outlooks (end_of n leg) x next) (next_after n q tables fit rides leg x)
        by_next rides enough away None picks = subst (IsOutlook n q (Failing (failure (end_of n leg) x))) (sym (after-stuck n q tables fit rides leg x away picks)) (stuck_reported n q (end_of n leg) x)
        by_next rides enough away (Some next) picks =
            let row = taken_row n tables fit (end_of n leg) x next picks in
            let boards = boards_later n valid (end_of n leg) x next.enter.0 row.0.enter row.1 in
            let onward : dep_of n next.enter.0 ≤ dep_of n next.exit.0 = onward_in next row.0 in
            let after : dep_of n exit.id.0 < dep_of n next.exit.0 = omega (arith, boards, onward, late, (valid.connections exit.id.0 there).forward) in
            let (found, has, soon, same) = row_of_pick (λ row. Contains exits (departure_of n row.leg.exit)) (rows_of_place tables (end_of n leg)) x next
            (rows_of_place-by (λ p rows. All (λ row. Contains exits (departure_of n row.leg.exit)) rows) tables (end_of n leg) (λ k d within. absurd (omega (arith, within))) among) picks in
            let known : Contains exits (departure_of n next.exit) = subst (λ (l : Leg). Contains exits (departure_of n l.exit)) same has in
            let departs = ap (λ (e : Departure). e.dep.0) is in
            over rides enough away next picks row.0.exit after (later_taken exits rest taken exit (departure_of n next.exit) whole.rising split known (omega (arith, departs, after)))

    children_reported : (outlooks : List Outlook) (p scheduled : ℕ) (next : ℕ → Tree) → ((x : ℕ) → scheduled ≤ x → IsOutlook n q (outlook_at tables q outlooks p x) (next x)) → (row : List Outcome)
        → EachKid (IsOutlook n q) row (outlooks_after tables q outlooks p scheduled row) (kids_after next scheduled row)
    children_reported outlooks p scheduled next each [] = tt
    children_reported outlooks p scheduled next each (o ∷ row) = (refl, each (scheduled + o.delay) (omega arith), children_reported outlooks p scheduled next each row)

    -- what comes of the next exit
    ride_reported : (outlooks : List Outlook) (rest taken : List Departure) (exit : Departure) → (rest ++ exit ∷ []) ++ taken ≡ exits → exit ≡ departure_of n exit.id → exit.id.0 < count n
        → AreRight n q tables outlooks taken
        → (leg : Leg) (rides : ℕ) → leg.exit ≡ exit.id → later n exit.id.0 ≤ rides → IsOutlook n q (outlook_of n tables q outlooks exit.id.0) (ride_by_rows n q tables rides leg)
    ride_reported outlooks rest taken exit split is there right leg rides of_exit enough = grind (arith, children_reported, next_after, arrival_reported, blend_reported)

    -- with the next exit
    right_next : (outlooks : List Outlook) (rest taken : List Departure) (exit : Departure) → (rest ++ exit ∷ []) ++ taken ≡ exits → exit ≡ departure_of n exit.id → exit.id.0 < count n
        → length outlooks ≡ count n → AreRight n q tables outlooks taken → AreRight n q tables (set outlooks exit.id.0 (outlook_of n tables q outlooks exit.id.0)) (exit ∷ taken)
    right_next outlooks rest taken exit split is there many right leg rides known enough = elim (cases_eq leg.exit.0 exit.id.0) [
      | inl same ↦
          let of_exit : leg.exit ≡ exit.id = ap (λ (k : ℕ). record { 0 = k }) same in
          let own = ride_reported outlooks rest taken exit split is there right leg rides of_exit (subst (λ k. later n k ≤ rides) same enough) in
          let at : slice_index_or (set outlooks exit.id.0 (outlook_of n tables q outlooks exit.id.0)) leg.exit.0 no_outlook ≡ outlook_of n tables q outlooks exit.id.0 =
          ap (λ j. slice_index_or (set outlooks exit.id.0 (outlook_of n tables q outlooks exit.id.0)) j no_outlook) same
          ∙ get_or-set_same outlooks exit.id.0 (outlook_of n tables q outlooks exit.id.0) no_outlook (omega (arith, there, many)) in
          subst (λ o. IsOutlook n q o (ride_by_rows n q tables rides leg)) (sym at) own
      | inr other ↦ grind (arith, get_or-set_other)
    ]
      where
        before : leg.exit.0 ≢ exit.id.0 → Contains taken (departure_of n leg.exit)
        before other = elim (Contains-cons_cases exit taken (departure_of n leg.exit) known) [
          | inl here ↦ absurd (other (sym (ap (λ (e : Departure). e.id.0) here)))
          | inr earlier ↦ earlier
        ]

-- the network is one, the graph's rows fit, and the exits are those of its legs
pub record AreReady (n : NetworkModel) (q : Query) (graph : PlanGraph) (exits : List Departure) : Type 0 where
  pub valid : IsValid n
  pub fit : AreFitRows n graph.tables
  pub whole : AreExits n (legs_of graph) exits
  pub among : AreAmong n exits graph.tables

pub are_ready : {n : NetworkModel} {q : Query} {graph : PlanGraph} {exits : List Departure} (legs : List GraphLeg) → legs ≡ legs_of graph → IsValid n → All (IsFitLeg n q) legs → AreExits n legs exits
    → AreReady n q graph exits
are_ready {n} {q} {graph} {exits} legs is valid each whole =
    let of_graph = subst (λ (legs : List GraphLeg). AreExits n legs exits) is whole in
    record {
      valid = valid;
      fit = rows_fit n q graph (subst (All (IsFitLeg n q)) is each);
      whole = of_graph;
      among = each_row_of (λ leg. Contains exits (departure_of n (exit_of leg))) graph of_graph.all;
    }

module _ {n : NetworkModel} {q : Query} {graph : PlanGraph} {exits : List Departure} (ready : AreReady n q graph exits) where
  -- none was looked at
  pub reported_first : (outlooks : List Outlook) → length outlooks ≡ count n → AreCollected n q graph.tables exits exits outlooks
  reported_first outlooks many = record { taken = []; split = append-nil exits; as_many = many; right = λ leg rides (k, within, at) enough. absurd (omega (arith, within)) }

  exit_there : (e : Departure) → Contains exits e → (e.id.0 < count n) × (e ≡ departure_of n e.id)
  exit_there e has = All-contains (λ (e : Departure). (e.id.0 < count n) × (e ≡ departure_of n e.id)) exits e ready.whole.each has

  module _ (rest : List Departure) (exit : Departure) {outlooks : List Outlook} (reported : AreCollected n q graph.tables exits (rest ++ exit ∷ []) outlooks) where
    next_there : (exit.id.0 < count n) × (exit ≡ departure_of n exit.id)
    next_there = exit_there exit (subst (λ (es : List Departure). Contains es exit) (sym (append_assoc rest (exit ∷ []) reported.taken) ∙ reported.split)
        (Contains-append_right rest (exit ∷ reported.taken) exit (0, omega arith, refl)))

    pub reported_there : exit.id.0 < count n
    reported_there = next_there.0

    pub reported_next : AreCollected n q graph.tables exits rest (set outlooks exit.id.0 (outlook_of n graph.tables q outlooks exit.id.0))
    reported_next = record {
      taken = exit ∷ reported.taken;
      split = sym (append_assoc rest (exit ∷ []) reported.taken) ∙ reported.split;
      as_many = length-set outlooks exit.id.0 (outlook_of n graph.tables q outlooks exit.id.0) ∙ reported.as_many;
      right = right_next n ready.valid q graph.tables ready.fit exits ready.whole ready.among outlooks rest reported.taken exit reported.split next_there.1 next_there.0 reported.as_many reported.right;
    }

  -- all were
  pub reported_last : {rest : List Departure} {outlooks : List Outlook} → rest ≡ [] → AreCollected n q graph.tables exits rest outlooks → AreOutlooks n q graph outlooks
  reported_last {rest} none reported leg has =
      let all : exits ≡ reported.taken = sym reported.split ∙ ap (λ (es : List Departure). es ++ reported.taken) none in
      let (of_leg, listed, is) = Contains-from_map exit_of (legs_of graph) leg.exit has in
      let known = subst (λ i. Contains exits (departure_of n i)) is (All-contains (λ leg. Contains exits (departure_of n (exit_of leg))) (legs_of graph) of_leg ready.whole.all listed) in
      let there = (exit_there (departure_of n leg.exit) known).0 in
      reported.right leg (count n - 1) (subst (λ (es : List Departure). Contains es (departure_of n leg.exit)) all known) (omega (arith, later_few n leg.exit.0 there))
