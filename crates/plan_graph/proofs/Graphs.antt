-- A graph of the rides that were walked is ready, where what is chosen is kept.
use Rattle.plan_graph.proofs.Common.{arith, ◌≡◌, ◌≢◌, ℕ, List, Option, Some, Contains, All, AllPairs, sym, subst, inl, inr, ◌∙◌, ap, cases_eq, All-contains, Leg, Outcome, Query, NetworkModel}
use Rattle.plan_graph.proofs.Common.{IsValid, arr_of, Tree, end_of, arrival_of, outcomes_of, unfolding_of, GraphRow, Ride, pick_row, IsLegOf, IsReady, IsReadyRide, IsReadyRow, MayPrecede, IsBusy}
use Rattle.plan_graph.proofs.{Common.{IsPickedAfter, IsSafeForSome, IsFirstInTime, Stands, pick_in_time, row_by, table_after, IsWalked, AllPairs-nil, All-from_contains}, Tables.IsChosenAt}
use Rattle.plan_graph.proofs.{Tables.{IsTableRow, Sooner, table_row, table_away, table_there, first_in_table, first_pick, in_time_for, before_for, one_found}, Walks.delays_rise}
use Rattle.plan_graph.specs.declared.ExpandedGraph.{ExpandedGraph}

-- what is chosen after an outcome of a leg can be reached, and is kept at the later outcomes up to its limit
abbrev pub IsKeptAfter : NetworkModel → ℕ → (Leg → ℕ → Option Leg) → Leg → Type 0
IsKeptAfter n target choice leg = end_of n leg ≢ target → (o : Outcome) → Contains (outcomes_of n leg) o → (next : Leg) → choice leg (arrival_of n leg o.delay) ≡ Some next →
    IsChosenAt n (end_of n leg) (choice leg) (arr_of n leg.exit.0) (outcomes_of n leg) (arrival_of n leg o.delay)

module _ (n : NetworkModel) (valid : IsValid n) (q : Query) (choice : Leg → ℕ → Option Leg) (start : Leg) (rides : List Ride)
    (walked : IsWalked n q choice start rides) where
  abbrev target : ℕ
  target = q.target.0

  abbrev graph : ExpandedGraph
  graph = record { start = Some start; rides = rides }

  pub leg_of_ride : (r : Ride) → Contains rides r → IsLegOf n r.leg
  leg_of_ride r = All-contains (λ s. IsLegOf n s.leg) rides r walked.legs

  pub table_of_ride : (r : Ride) → Contains rides r → r.after ≡ table_after n target choice r.leg
  table_of_ride r = All-contains (λ s. s.after ≡ table_after n target choice s.leg) rides r walked.tables

  module _ (r : Ride) (there : Contains rides r) where
    delays : AllPairs Sooner (outcomes_of n r.leg)
    delays = delays_rise n valid r.leg (leg_of_ride r there)

    -- the first row at an outcome's arrival is what is chosen
    pub first_row : end_of n r.leg ≢ target → (o : Outcome) → Contains (outcomes_of n r.leg) o → (next : Leg)
        → choice r.leg (arrival_of n r.leg o.delay) ≡ Some next → IsFirstInTime r.after (arrival_of n r.leg o.delay) (row_by (arrival_of n r.leg o.delay) next)
    first_row away o has next is = grind (arith, table_of_ride, first_in_table, target, delays)

    -- and what is picked
    pub picks_taken : (away : end_of n r.leg ≢ target) (o : Outcome) (outcome : Contains (outcomes_of n r.leg) o)
        → pick_row r.after (arrival_of n r.leg o.delay) ≡ Some (walked.taken r there away o outcome).next
    picks_taken away o outcome =
        let t = walked.taken r there away o outcome in
        first_pick r.after (arrival_of n r.leg o.delay) (row_by (arrival_of n r.leg o.delay) t.next) (first_row away o outcome t.next t.is_chosen)

    row_from : (row : GraphRow) → Contains r.after row → IsTableRow n target choice r.leg row
    row_from row has = table_row n target choice r.leg row (subst (λ (list : List GraphRow). Contains list row) (table_of_ride r there) has)

    -- each row is picked
    pub picked_row : (row : GraphRow) → Contains r.after row → IsPickedAfter n target r row
    picked_row row has =
        let at = row_from row has in
        let m = at.from_outcome in
        let x = arrival_of n r.leg m.o.delay in (
          at.away,
          (
            m.o,
            m.has,
            subst (λ (w : GraphRow). IsFirstInTime r.after x w) (sym m.is) (first_row at.away m.o m.has m.next m.is_chosen),
          ),
        )

    module _ (kept : IsKeptAfter n target choice r.leg) where
      each : end_of n r.leg ≢ target → (o : Outcome) → Contains (outcomes_of n r.leg) o
          → IsChosenAt n (end_of n r.leg) (choice r.leg) (arr_of n r.leg.exit.0) (outcomes_of n r.leg) (arrival_of n r.leg o.delay)
      each away o has = let t = walked.taken r there away o has in kept away o has t.next t.is_chosen

      ready_row : (row : GraphRow) → Contains r.after row → IsReadyRow n (end_of n r.leg) row
      ready_row row has =
          let at = row_from row has in
          let m = at.from_outcome in
          let x = arrival_of n r.leg m.o.delay in
          let t = walked.taken r there at.away m.o m.has in
          let c = each at.away m.o m.has in
          let one : c.next ≡ m.next = one_found (choice r.leg x) c.next m.next c.is_chosen m.is_chosen in
          let two : t.next ≡ m.next = one_found (choice r.leg x) t.next m.next t.is_chosen m.is_chosen in
          let here : IsReadyRow n (end_of n r.leg) (row_by x m.next) = grind arith in
          subst (λ (w : GraphRow). IsReadyRow n (end_of n r.leg) w) (sym m.is) here

      rows_rise : AllPairs (MayPrecede n (end_of n r.leg)) (table_after n target choice r.leg)
      rows_rise = elim (cases_eq (end_of n r.leg) target) [
        | inl is ↦ subst (AllPairs (MayPrecede n (end_of n r.leg))) (sym (table_there n target choice r.leg is)) (AllPairs-nil (MayPrecede n (end_of n r.leg)))
        | inr away ↦ subst (AllPairs (MayPrecede n (end_of n r.leg))) (sym (table_away n target choice r.leg away))
            (before_for (choice r.leg) (arr_of n r.leg.exit.0) n (end_of n r.leg) (outcomes_of n r.leg) delays (each away))
      ]

      picks_first : end_of n r.leg ≢ target → (o : Outcome) → Contains (outcomes_of n r.leg) o
          → pick_row r.after (arrival_of n r.leg o.delay) ≡ pick_in_time n (end_of n r.leg) r.after (arrival_of n r.leg o.delay)
      picks_first away o outcome =
          let x = arrival_of n r.leg o.delay in
          let t = walked.taken r there away o outcome in
          picks_taken away o outcome
          ∙ sym (ap (λ (list : List GraphRow). pick_in_time n (end_of n r.leg) list x) (table_of_ride r there ∙ table_away n target choice r.leg away)
          ∙ in_time_for (choice r.leg) (arr_of n r.leg.exit.0) n (end_of n r.leg) (outcomes_of n r.leg) delays (each away) o outcome t.next t.is_chosen)

      pub ready_ride : IsReadyRide n target r
      ready_ride = record {
        is_leg = leg_of_ride r there;
        rows = All-from_contains (IsReadyRow n (end_of n r.leg)) r.after ready_row;
        rising = subst (AllPairs (MayPrecede n (end_of n r.leg))) (sym (table_of_ride r there)) rows_rise;
        picks = picks_first;
      }

  -- the graph is ready
  pub ready : q.source.0 ≢ q.target.0 → IsLegOf n start → IsSafeForSome n q (unfolding_of n q choice (Some start)) → ((r : Ride) → Contains rides r → IsKeptAfter n target choice r.leg)
      → IsReady n q graph
  ready differ is_leg safe kept = record {
    safe = subst (λ (tree : Tree). IsSafeForSome n q tree) (sym walked.unfolds) safe;
    starts = (differ, is_leg);
    rising = walked.rising;
    rides = All-from_contains (IsReadyRide n target) rides (λ r there. ready_ride r there (kept r there));
  }

  -- and no row and no ride of it is idle
  pub busy : IsBusy n q graph
  busy = record {
    picked = All-from_contains (λ r. All (IsPickedAfter n target r) r.after) rides (λ r there. All-from_contains (IsPickedAfter n target r) r.after (picked_row r there));
    stands = subst (λ (tree : Tree). All (λ r. Stands r.leg tree) rides) (sym walked.unfolds) walked.stands;
  }
