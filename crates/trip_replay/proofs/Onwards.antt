-- A traveller whose rides are no later than by some delay of their classes arrives by the rows of a graph that is tidy and safe.
use Rattle.trip_replay.proofs.Common.{◌≡◌, ◌≢◌, ℕ, zero, suc, ◌+◌, ◌-◌, ◌<◌, ◌≤◌, List, [], ◌∷◌, Option, Some, None, All, AllPairs, Contains, arith, sym, subst, refl, inl, inr, ◌∙◌, ap, eq-eqb}
use Rattle.trip_replay.proofs.Common.{end_of_arrivals, ne_eqb, MatchOption, cases_eq, cases_lt, All-nil, All-contains, Leg, Outcome, Query, NetworkModel, IsValid, count, dep_of, arr_of, Tree, Done, IsBoardable}
use Rattle.trip_replay.proofs.Common.{IsSafe, AreSafe, IsSafeFor, end_of, arrival_of, outcomes_of, kids_after, ride_of, ride_or_stuck, unfold_after, unfolding_of, by_place, PlaceTable, pick_row}
use Rattle.trip_replay.proofs.Common.{pick_at, rows_of_place, IsLegOf, Stands, StandsIn, IsFitRow, IsFitTable, IsFitStart, IsPickedIn, IsTidy, unfold_plan, pick_here, pick_further, row_of_pick}
use Rattle.trip_replay.proofs.Common.{rows_of_place-by, table_here, table_further}
use Rattle.trip_replay.specs.Onward.{AreUpTo, late_end, LeadsInTime, ArrivesByRows}
use Rattle.plan_model.proofs.{Boarding.{boards_later, limit_of-some}, Bounds.forward, Lists.{All-from_contains, Contains-nil, Contains-cons_cases, AllPairs-head, AllPairs-tail}}
use Rattle.plan_graph.specs.{declared.{GraphRow.GraphRow, PlanGraph.PlanGraph}, Walked.{StandsSafely, children_of}}
use Rattle.plan_graph.proofs.{Places.{next_after, safe_child}, Tables.{first_pick, one_found}}

-- what is picked for a later arrival, is there for a sooner one
pick_sooner : (rows : List GraphRow) (y x : ℕ) (leg : Leg) → pick_row rows y ≡ Some leg → x ≤ y → (sooner : Leg) × (pick_row rows x ≡ Some sooner)
pick_sooner [] y x leg is less = absurd (cc)
pick_sooner (row ∷ rows) y x leg is less = elim (cases_lt row.by.0 x) [
  | inl late ↦ grind (arith, pick_further, pick_sooner rows y x leg (sym (pick_further row rows y (omega (arith, late, less))) ∙ is) less)
  | inr soon ↦ (row.leg, pick_here row rows x soon)
]

-- the rows of the place of a table are its own, where places rise
own_rows : (tables : List PlaceTable) → AllPairs (λ a b. a.place.0 < b.place.0) tables → (table : PlaceTable) → Contains tables table
    → rows_of_place tables table.place.0 ≡ table.rows
own_rows [] rising table has = absurd (Contains-nil table has)
own_rows (first ∷ rest) rising table has = elim (Contains-cons_cases first rest table has) [
  | inl is ↦ subst (λ (t : PlaceTable). rows_of_place (first ∷ rest) t.place.0 ≡ t.rows) is (table_here first rest first.place.0 refl)
  | inr more ↦
      let less = AllPairs-head (λ (a b : PlaceTable). a.place.0 < b.place.0) first rest rising table more in
      table_further first rest table.place.0 (λ same. absurd (omega (arith, same, less)))
      ∙ own_rows rest (AllPairs-tail (λ (a b : PlaceTable). a.place.0 < b.place.0) first rest rising) table more
]

-- the ride of each leg that stands in a safe unfolding is followed by safe ones
module _ (n : NetworkModel) (target : ℕ) (by : Option ℕ) (choice : Leg → ℕ → Option Leg) (whole : Tree) where
  abbrev Placed : Leg → Type 0
  Placed leg = StandsSafely n target by choice whole leg

  abbrev onward : ℕ → Leg → ℕ → Tree
  onward rides = unfold_after n target choice rides

  -- each leg of what is done after a leg is placed, if all that is safe and in the whole
  abbrev ArePlacedAfter : ℕ → Leg → Leg → Type 0
  ArePlacedAfter rides leg other = (x : ℕ) → IsSafe n target by (onward rides leg x) (end_of n leg) x
      → ((l : Leg) → Stands l (onward rides leg x) → Stands l whole) → Stands other (onward rides leg x) → Placed other

  placed_in : (rides : ℕ) (next other : Leg) → ArePlacedAfter rides next other → (row : List Outcome)
      → AreSafe n target by (kids_after (onward rides next) (arr_of n next.exit.0) row) row (end_of n next) (arr_of n next.exit.0)
      → ((l : Leg) → StandsIn l (kids_after (onward rides next) (arr_of n next.exit.0) row) → Stands l whole)
      → StandsIn other (kids_after (onward rides next) (arr_of n next.exit.0) row) → Placed other
  placed_in rides next other below [] safe inside there = absurd there
  placed_in rides next other below (o ∷ row) safe inside (inl here) = below (arr_of n next.exit.0 + o.delay) safe.1 (λ l t. inside l (inl t)) here
  placed_in rides next other below (o ∷ row) safe inside (inr more) = placed_in rides next other below row safe.2 (λ l t. inside l (inr t)) more

  placed_ride : (rides : ℕ) (next other : Leg) → ArePlacedAfter rides next other → IsLegOf n next
      → AreSafe n target by (children_of n target choice rides next) (outcomes_of n next) (end_of n next) (arr_of n next.exit.0)
      → ((l : Leg) → Stands l (ride_of n (onward rides) next) → Stands l whole) → Stands other (ride_of n (onward rides) next) → Placed other
  placed_ride rides next other below is_leg safe inside (inl here) =
      let e = here.0 in
      let f = here.1 in
      let same : next ≡ other = λ i. record { enter = record { 0 = sym e i }; exit = record { 0 = sym f i } } in
      grind arith
  placed_ride rides next other below is_leg safe inside (inr under) = grind (arith, placed_in)

  placed_by : (rides : ℕ) (leg : Leg) (x : ℕ) (other : Leg) → ((next : Leg) → ArePlacedAfter rides next other) → (found : Option Leg)
      → IsSafe n target by (ride_or_stuck n (onward rides) found (end_of n leg) x) (end_of n leg) x
      → ((l : Leg) → Stands l (ride_or_stuck n (onward rides) found (end_of n leg) x) → Stands l whole)
      → Stands other (ride_or_stuck n (onward rides) found (end_of n leg) x) → Placed other
  placed_by rides leg x other below None safe inside there = absurd there
  placed_by rides leg x other below (Some next) safe inside there = placed_ride rides next other (below next) safe.1 safe.3 inside there

  placed_after : (rides : ℕ) (leg other : Leg) → ArePlacedAfter rides leg other
  placed_after zero leg other x safe inside there = grind (arith, cases_eq, eq-eqb, ne_eqb)
  placed_after (suc rides) leg other x safe inside there = elim (cases_eq (end_of n leg) target) [
    | inl is ↦ absurd (rw (eq-eqb (end_of n leg) target is) at there)
    | inr away ↦
        placed_by rides leg x other (λ next. placed_after rides next other) (choice leg x) (rw (ne_eqb (end_of n leg) target away) at safe)
        (λ l t. inside l (rw (ne_eqb (end_of n leg) target away) t)) (rw (ne_eqb (end_of n leg) target away) at there)
  ]

  -- at the target the traveller has arrived
  done_after : (rides : ℕ) (leg : Leg) (x : ℕ) → end_of n leg ≡ target → onward rides leg x ≡ Done x
  done_after rides leg x h1 = grind (arith, eq-eqb)

module _ (n : NetworkModel) (v : IsValid n) (q : Query) (tables : List PlaceTable) (start : Leg) where
  abbrev choice : Leg → ℕ → Option Leg
  choice = by_place n (pick_at tables)

  abbrev whole : Tree
  whole = unfolding_of n q choice (Some start)

  abbrev IsPlaced : Leg → Type 0
  IsPlaced leg = StandsSafely n q.target.0 (Some q.deadline.0) choice whole leg

  module _ (differ : q.source.0 ≢ q.target.0) (safe : IsSafeFor n q whole) (fit : All (IsFitTable n) tables)
      (rising : AllPairs (λ a b. a.place.0 < b.place.0) tables)
      (picked : All (λ table. All (IsPickedIn n q.target.0 whole table) table.rows) tables) where
    placed : (leg : Leg) → Stands leg whole → IsPlaced leg
    placed leg there =
        let ride = rw (ne_eqb q.source.0 q.target.0 differ) at safe in
        placed_ride n q.target.0 (Some q.deadline.0) choice whole (count n - 1) start leg
        (placed_after n q.target.0 (Some q.deadline.0) choice whole (count n - 1) start leg) ride.1 ride.3
        (λ l t. rw (ne_eqb q.source.0 q.target.0 differ) t) (rw (ne_eqb q.source.0 q.target.0 differ) at there)

    abbrev IsGood : ℕ → GraphRow → Type 0
    IsGood place row = IsFitRow n place row × IsPlaced row.leg

    good_row : (table : PlaceTable) → Contains tables table → (row : GraphRow) → Contains table.rows row → IsGood table.place.0 row
    good_row table has row there =
        let fits = All-contains (IsFitRow n table.place.0) table.rows row (All-contains (IsFitTable n) tables table fit has).rows there in
        let idle = All-contains (IsPickedIn n q.target.0 whole table) table.rows row
        (All-contains (λ t. All (IsPickedIn n q.target.0 whole t) t.rows) tables table picked has) there in
        let leg = idle.1.0 in
        let o = idle.1.3.0 in
        let x = arrival_of n leg o.delay in
        let away : end_of n leg ≢ q.target.0 = λ e. idle.0 (sym idle.1.2 ∙ e) in
        let t = next_after n q.target.0 (Some q.deadline.0) choice whole leg (placed leg idle.1.1) away o idle.1.3.1 in
        let picks : choice leg x ≡ Some row.leg =
        ap (λ (p : ℕ). pick_row (rows_of_place tables p) x) idle.1.2
        ∙ ap (λ (rows : List GraphRow). pick_row rows x) (own_rows tables rising table has)
        ∙ first_pick table.rows x row idle.1.3.2 in
        (fits, subst IsPlaced (one_found (choice leg x) t.next row.leg t.is_chosen picks) t.placed)

    good_rows : (place : ℕ) → All (IsGood place) (rows_of_place tables place)
    good_rows place = rows_of_place-by (λ at. All (IsGood at)) tables place (All-nil (IsGood place))
        (All-from_contains (λ (t : PlaceTable). All (IsGood t.place.0) t.rows) tables (λ table has.
        All-from_contains (IsGood table.place.0) table.rows (good_row table has)))

    module _ (late : ℕ → ℕ) (up_to : AreUpTo n late) where
      -- a ride that ends at the target does so by the deadline
      in_time : (leg : Leg) → IsPlaced leg → end_of n leg ≡ q.target.0 → late_end n late leg ≤ q.deadline.0
      in_time leg own there =
          let w = up_to leg.exit.0 own.is_leg.exit in
          let y = arrival_of n leg w.0.delay in
          let one = safe_child n q.target.0 (Some q.deadline.0) choice (unfold_after n q.target.0 choice own.rides leg) (outcomes_of n leg) (end_of n leg)
          (arr_of n leg.exit.0) own.safe w.0 w.1 in
          let done = subst (λ (tree : Tree). IsSafe n q.target.0 (Some q.deadline.0) tree (end_of n leg) y)
          (done_after n q.target.0 (Some q.deadline.0) choice whole own.rides leg y there) one in
          omega (arith, done.2, w.2)

      arrive : (m : ℕ) (leg : Leg) → IsPlaced leg → end_of_arrivals ≤ dep_of n leg.enter.0 + m → LeadsInTime n tables q late leg
      arrive zero leg own much = grind arith
      arrive (suc m) leg own much = elim (cases_eq (end_of n leg) q.target.0) [
        | inl there ↦ (suc zero, (late_end n late leg, inl (there, refl), in_time leg own there))
        | inr away ↦
            let w = up_to leg.exit.0 own.is_leg.exit in
            let p = end_of n leg in
            let x = late_end n late leg in
            let y = arrival_of n leg w.0.delay in
            let t = next_after n q.target.0 (Some q.deadline.0) choice whole leg own away w.0 w.1 in
            let sooner = pick_sooner (rows_of_place tables p) y x t.next t.is_chosen (omega (arith, w.2)) in
            let row = row_of_pick (IsGood p) (rows_of_place tables p) x sooner.0 (good_rows p) sooner.1 in
            let next = row.0.leg in
            let by = limit_of-some n p next row.0.by.0 row.1.0.by in
            let boards : IsBoardable n p x next.enter.0 = record { seconds = by.0; way = by.1; in_time = omega (arith, by.2, row.2) } in
            let later = boards_later n v p x next.enter.0 row.1.1.is_leg.enter boards in
            let ends = forward n v leg.enter.0 leg.exit.0 own.is_leg in
            let rest = arrive m next row.1.1 (omega (arith, much, later, ends)) in
            let picks : pick_at tables p x ≡ Some next = sooner.1 ∙ ap (λ (l : Leg). Some l) (sym row.3) in
            (suc rest.0, (rest.1.0, inr (away, (next, picks, boards, rest.1.1)), rest.1.2))
      ]

pub arrives_by_rows : (n : NetworkModel) (q : Query) (graph : PlanGraph) (late : ℕ → ℕ) → IsValid n → IsTidy n q graph → IsSafeFor n q (unfold_plan graph n q)
    → AreUpTo n late → ArrivesByRows n q graph late
arrives_by_rows n q graph late v tidy safe up_to leg starts =
    let begins : IsFitStart n q leg =
    subst (λ (s : Option Leg). MatchOption s ((q.source.0 ≡ q.target.0) × (graph.tables ≡ [])) (IsFitStart n q)) starts tidy.fit.starts in
    let differ = begins.differ in
    let safe_by = subst (λ (s : Option Leg). IsSafeFor n q (unfolding_of n q (by_place n (pick_at graph.tables)) s)) starts safe in
    let picked = subst (λ (s : Option Leg).
    All (λ table. All (IsPickedIn n q.target.0 (unfolding_of n q (by_place n (pick_at graph.tables)) s) table) table.rows) graph.tables) starts tidy.picked in
    let stands : Stands leg (unfolding_of n q (by_place n (pick_at graph.tables)) (Some leg)) = rw (ne_eqb q.source.0 q.target.0 differ) (inl (refl, refl)) in
    let own = placed n v q graph.tables leg differ safe_by tidy.fit.tables tidy.fit.rising picked leg stands in
    arrive n v q graph.tables leg differ safe_by tidy.fit.tables tidy.fit.rising picked late up_to end_of_arrivals leg own (omega arith)
