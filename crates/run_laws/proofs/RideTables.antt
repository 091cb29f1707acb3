-- A whole graph by ride, with a row for each outcome, follows from its tree.
use Rattle.run_laws.proofs.Common.{◌≡◌, ◌≢◌, ℕ, List, [], ◌∷◌, map, Option, Some, None, MatchOption, All, AllPairs, Contains, arith, sym, subst, refl, inl, inr, ◌∙◌, ap, ap₂, cases_eq, ne_eqb}
use Rattle.run_laws.proofs.Common.{eq-eqb, All-head, All-contains, Leg, Outcome, Query, NetworkModel, Tree, Done, end_of, arrival_of, outcomes_of, unfolding_of, GraphRow, ExpandedGraph, pick_row}
use Rattle.run_laws.proofs.Common.{pick_after, Precedes, IsLegOf, IsReadyRide, Stands, unfold_expanded, pick_here, pick_further, one_found, Contains-nil, Contains-cons_cases, Contains-map}
use Rattle.run_laws.proofs.{Common.{Contains-from_map, AllPairs-head, AllPairs-tail, HasEveryRow}, Rising.{HasAll, one_rising}, Agree.{start_same, agree_from}, PlaceTables.{Sooner, row_same}}
use Rattle.plan_graph.specs.declared.Ride.{Ride}
use Rattle.plan_graph.proofs.Rides.{rows_after-own}
use Rattle.leg_extract.specs.Extracted.{HasArrivals}

-- among rows that rise each is picked at its own moment
own_pick : (rows : List GraphRow) → AllPairs Sooner rows → (row : GraphRow) → Contains rows row → pick_row rows row.by.0 ≡ Some row.leg
own_pick [] up row has = absurd (Contains-nil row has)
own_pick (head ∷ rows) up row has = elim (Contains-cons_cases head rows row has) [
  | inl is ↦ grind (arith, pick_here)
  | inr more ↦ pick_further head rows row.by.0 (AllPairs-head Sooner head rows up row more) ∙ own_pick rows (AllPairs-tail Sooner head rows up) row more
]

abbrev ride_with : Leg → List GraphRow → Ride
ride_with leg rows = record { leg = leg; after = rows }

abbrev graph_of : Option Leg → List Ride → ExpandedGraph
graph_of start rides = record { start = start; rides = rides }

abbrev moments : List GraphRow → List ℕ
moments rows = map (λ row. row.by.0) rows

abbrev before : Ride → Ride → Type 0
before a b = Precedes a.leg b.leg

-- one leg does not come before and after another
one_way : (a b : Ride) → before a b → before b a → ⊥
one_way a b first second = grind arith

no_rides : (rides : List Ride) (tree : Tree) (moment : ℕ) → tree ≡ Done moment → All (λ r. Stands r.leg tree) rides → rides ≡ []
no_rides [] tree moment is all = refl
no_rides (r ∷ rides) tree moment is all = grind (arith, All-head)

module _ (n : NetworkModel) (q : Query) where
  abbrev target : ℕ
  target = q.target.0

  abbrev FromStart : List Ride → Option Leg → Tree
  FromStart rides start = unfolding_of n q (pick_after rides) start

  at_target : (choice : Leg → ℕ → Option Leg) (start : Option Leg) → q.source.0 ≡ target → unfolding_of n q choice start ≡ Done q.start.0
  at_target choice start is = rw (eq-eqb q.source.0 target is) refl

  rows_rise : (r : Ride) → IsReadyRide n target r → AllPairs Sooner r.after
  rows_rise r its = λ i j d below within. (its.rising i j d below within).by

  -- a row of a ride is by the arrival of an outcome
  record IsByOutcome (r : Ride) (row : GraphRow) : Type 0 where
    away : end_of n r.leg ≢ target
    o : Outcome
    has : Contains (outcomes_of n r.leg) o
    at : arrival_of n r.leg o.delay ≡ row.by.0

  by_outcome : (r : Ride) → HasArrivals n target r → (row : GraphRow) → Contains r.after row → IsByOutcome r row
  by_outcome r arrivals row has =
      let there : Contains (moments r.after) row.by.0 = Contains-map (λ (w : GraphRow). w.by.0) r.after row has in
      elim (cases_eq (end_of n r.leg) target) [
        | inl is ↦ absurd (Contains-nil row.by.0 (subst (λ (list : List ℕ). Contains list row.by.0) (rw (eq-eqb (end_of n r.leg) target is) at arrivals) there))
        | inr away ↦
            let list : moments r.after ≡ map (λ o. arrival_of n r.leg o.delay) (outcomes_of n r.leg) = rw (ne_eqb (end_of n r.leg) target away) at arrivals in
            let found = Contains-from_map (λ (o : Outcome). arrival_of n r.leg o.delay) (outcomes_of n r.leg) row.by.0 (subst (λ (m : List ℕ). Contains m row.by.0) list there) in
            record { away = away; o = found.0; has = found.1; at = found.2 }
      ]

  -- rides of one leg have rows at the same moments
  same_moments : (r s : Ride) → HasArrivals n target r → HasArrivals n target s → s.leg ≡ r.leg → moments r.after ≡ moments s.after
  same_moments r s arrivals others is = grind (arith, target, ride_with)

  module _ (a b : ExpandedGraph) (start : Leg) (starts : a.start ≡ Some start) (starts_other : b.start ≡ Some start) (reported : HasEveryRow n q a) (reported_other : HasEveryRow n q b)
      (differ : q.source.0 ≢ target) (same : unfold_expanded a n q ≡ unfold_expanded b n q) where
    agree : (leg : Leg) → Stands leg (unfold_expanded a n q) → end_of n leg ≢ target → (o : Outcome) → Contains (outcomes_of n leg) o
        → pick_after a.rides leg (arrival_of n leg o.delay) ≡ pick_after b.rides leg (arrival_of n leg o.delay)
    agree leg stands =
        let safe = reported.ready.safe in
        agree_from n target (pick_after a.rides) (pick_after b.rides) (Some safe.0) start q.source.0 q.start.0 differ
        (ap (FromStart a.rides) (sym starts) ∙ same ∙ ap (FromStart b.rides) starts_other)
        (rw starts at safe.1) leg (rw starts at stands)

    row_there : (r s : Ride) → Contains a.rides r → Contains b.rides s → s.leg ≡ r.leg → HasAll r.after s.after
    row_there r s has there leg row own =
        let its = All-contains (IsReadyRide n target) a.rides r reported.ready.rides has in
        let others = All-contains (IsReadyRide n target) b.rides s reported_other.ready.rides there in
        let arrivals = All-contains (HasArrivals n target) a.rides r reported.arrivals has in
        let arrivals_other = All-contains (HasArrivals n target) b.rides s reported_other.arrivals there in
        let by = by_outcome r arrivals row own in
        let x = row.by.0 in
        let moment = subst (λ (list : List ℕ). Contains list x) (same_moments r s arrivals arrivals_other leg) (Contains-map (λ (w : GraphRow). w.by.0) r.after row own) in
        let found = Contains-from_map (λ (w : GraphRow). w.by.0) s.after x moment in
        let both : pick_after a.rides r.leg x ≡ pick_after b.rides r.leg x =
        subst (λ (m : ℕ). pick_after a.rides r.leg m ≡ pick_after b.rides r.leg m) by.at
        (agree r.leg (All-contains (λ t. Stands t.leg (unfold_expanded a n q)) a.rides r reported.busy.stands has) by.away by.o by.has) in
        let first : pick_after a.rides r.leg x ≡ Some row.leg =
        ap (λ (rows : List GraphRow). pick_row rows x) (rows_after-own a.rides reported.ready.rising r has) ∙ own_pick r.after (rows_rise r its) row own in
        let second : pick_after b.rides r.leg x ≡ Some found.0.leg =
        ap (λ (l : Leg). pick_after b.rides l x) (sym leg) ∙ ap (λ (rows : List GraphRow). pick_row rows x) (rows_after-own b.rides reported_other.ready.rising s there)
        ∙ ap (pick_row s.after) (sym found.2) ∙ own_pick s.after (rows_rise s others) found.0 found.1 in
        let next = one_found (pick_after b.rides r.leg x) found.0.leg row.leg second (sym both ∙ first) in
        subst (λ (w : GraphRow). Contains s.after w) (row_same found.0 row found.2 next) found.1

  one_ride : (a b : ExpandedGraph) (start : Leg) → a.start ≡ Some start → b.start ≡ Some start → HasEveryRow n q a → HasEveryRow n q b → q.source.0 ≢ target
      → unfold_expanded a n q ≡ unfold_expanded b n q → HasAll a.rides b.rides
  one_ride a b start starts others reported all_reported differ same r has =
      let stands = subst (λ (t : Tree). Stands r.leg t) same (All-contains (λ t. Stands t.leg (unfold_expanded a n q)) a.rides r reported.busy.stands has) in
      let (s, there, leg) = all_reported.whole r.leg stands in
      let its = All-contains (IsReadyRide n target) a.rides r reported.ready.rides has in
      let other = All-contains (IsReadyRide n target) b.rides s all_reported.ready.rides there in
      let rows : r.after ≡ s.after = one_rising Sooner (λ x y less more. omega (arith, less, more)) r.after s.after (rows_rise r its) (rows_rise s other)
      (row_there a b start starts others reported all_reported differ same r s has there leg)
      (row_there b a start others starts all_reported reported differ (sym same) s r there has (sym leg)) in
      subst (λ (t : Ride). Contains b.rides t) (ap₂ ride_with leg (sym rows)) there

  by_start : (a b : ExpandedGraph) (s t : Option Leg) → a.start ≡ s → b.start ≡ t → HasEveryRow n q a → HasEveryRow n q b → unfold_expanded a n q ≡ unfold_expanded b n q
      → MatchOption s (q.source.0 ≡ q.target.0) (λ leg. (q.source.0 ≢ q.target.0) × IsLegOf n leg)
      → MatchOption t (q.source.0 ≡ q.target.0) (λ leg. (q.source.0 ≢ q.target.0) × IsLegOf n leg) → a ≡ b
  by_start a b None None is other reported all_reported same none nothing =
      ap₂ graph_of (is ∙ sym other)
      (no_rides a.rides (unfold_expanded a n q) q.start.0 (at_target (pick_after a.rides) a.start none) reported.busy.stands
      ∙ sym (no_rides b.rides (unfold_expanded b n q) q.start.0 (at_target (pick_after b.rides) b.start none) all_reported.busy.stands))
  by_start a b None (Some t) is other reported all_reported same none fit = absurd (fit.0 none)
  by_start a b (Some s) None is other reported all_reported same fit none = absurd (fit.0 none)
  by_start a b (Some s) (Some t) is other reported all_reported same fit fits =
      let starts : a.start ≡ b.start = start_same n target (pick_after a.rides) (pick_after b.rides) a.start b.start q.source.0 q.start.0 fit.0 same in
      let there = sym starts ∙ is in
      ap₂ graph_of starts (one_rising before one_way a.rides b.rides reported.ready.rising all_reported.ready.rising
      (one_ride a b s is there reported all_reported fit.0 same) (one_ride b a s there is all_reported reported fit.0 (sym same)))

  pub one_reported : (a b : ExpandedGraph) → HasEveryRow n q a → HasEveryRow n q b → unfold_expanded a n q ≡ unfold_expanded b n q → a ≡ b
  one_reported a b reported all_reported same = by_start a b a.start b.start refl refl reported all_reported same reported.ready.starts all_reported.ready.starts
