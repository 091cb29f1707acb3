-- The graph by place unfolds to the same tree, and is tidy.
use Rattle.graph_compact.proofs.Common.{◌≡◌, ◌≢◌, ℕ, suc, ◌+◌, ◌≤◌, ◌<◌, List, [], ◌∷◌, length, Option, Some, Contains, All, AllPairs, arith, sym, subst, refl, inl, inr, ◌∙◌, ap, ap₂}
use Rattle.graph_compact.proofs.Common.{slice_index_or, MatchOption, nat_cmp, Less, ne_eqb, eq-eqb, common_steps, cases_eq, All-nil, All-contains, Contains-get_or, exact_unsigned, Leg}
use Rattle.graph_compact.proofs.Common.{NetworkModel, end_of, arrival_of, outcomes_of, unfolding_of, by_place, GraphRow, Ride, PlaceTable, IsReadyRide, IsPruned, IsPickedAfter, IsLegOf}
use Rattle.graph_compact.proofs.Common.{IsFirstInTime, IsSafeForSome, Stands, row_by, leg_cmp, All-from_contains, AllPairs-nil, nat_cmp-Less, ordering_then-Less, leg_cmp-Less, row_cmp}
use Rattle.graph_compact.proofs.{Common.{with_table, gathered_rows, tables_of}, Lists.{IsOf, All-gathered_rows, Contains-gathered_rows, IsStrictlySortedBy-gathered_rows, some_first, first_least}}
use Rattle.std.proofs.lemmas.{Bool.Decides.nat_tests, Map.Keys.Less-from_sorted}
use Rattle.plan_model.specs.{declared.model.{Outcome.Outcome, Query.Query}, Network.IsValid, Tree.Tree, Ways.limit_of}
use Rattle.plan_graph.specs.{declared.{ExpandedGraph.ExpandedGraph, PlanGraph.PlanGraph}, Unfold.{pick_row, pick_after, pick_at, rows_of_place, unfold_expanded, unfold_plan}, Coherent.IsCoherent}
use Rattle.plan_graph.specs.{Coherent.IsRowAt, Tidy.{IsFit, IsFitRow, IsFitTable, IsFitStart, IsTidy, IsPickedIn}, Walked.StandsSafely}
use Rattle.plan_graph.proofs.{Searches.precedes_itself, Together.unfold_from-together, Places.{IsPlacedNext, next_after}, Reaching.start_placed, Tables.{first_pick, first_there, picked_first}}
use Rattle.plan_graph.proofs.{Tables.one_found, Rides.ride_there}

-- the rows of a place in the tables, from a first table on
rows_of_place-here : (base : ℕ) (rows : List GraphRow) (tables : List PlaceTable) → rows_of_place tables base ≡ [] → rows_of_place (with_table base rows tables) base ≡ rows
rows_of_place-here base rows tables h1 = grind (arith, eq-eqb)

rows_of_place-other : (base place : ℕ) (rows : List GraphRow) (tables : List PlaceTable) → base ≢ place → rows_of_place (with_table base rows tables) place ≡ rows_of_place tables place
rows_of_place-other base place rows tables h1 = grind (arith, ne_eqb)

no_rows : (place base : ℕ) (lists : List (List GraphRow)) → place < base → rows_of_place (tables_of base lists) place ≡ []
no_rows place base [] less = refl
no_rows place base (rows ∷ more) less = grind (arith, rows_of_place-other, no_rows place (base + 1) more (omega (arith, less)))

abbrev ByPlace : PlaceTable → PlaceTable → Type 0
ByPlace a b = a.place.0 < b.place.0

module _ (T : ℕ → List GraphRow) where
  -- the lists are the rows of the places from one on
  pub record AreFrom (base : ℕ) (lists : List (List GraphRow)) : Type 0 where
    pub each : (i : ℕ) → i < length lists → slice_index_or lists i [] ≡ T (base + i)

  from_head : (base : ℕ) (rows : List GraphRow) (more : List (List GraphRow)) → AreFrom base (rows ∷ more) → rows ≡ T base
  from_head base rows more from = from.each 0 (omega arith) ∙ ap T (let e : base + 0 ≡ base = omega arith in e)

  from_tail : (base : ℕ) (rows : List GraphRow) (more : List (List GraphRow)) → AreFrom base (rows ∷ more) → AreFrom (base + 1) more
  from_tail base rows more from = record {
    each = λ i inside. from.each (suc i) (omega (arith, inside)) ∙ ap T (let e : base + suc i ≡ base + 1 + i = omega arith in e);
  }

  pub rows_found : (place base : ℕ) (lists : List (List GraphRow)) → AreFrom base lists → base ≤ place → place < base + length lists → rows_of_place (tables_of base lists) place ≡ T place
  rows_found place base [] from low within = absurd (omega (arith, low, within))
  rows_found place base (rows ∷ more) from low within =
      let rest = tables_of (base + 1) more in
      elim (cases_eq base place) [
        | inl is ↦ subst (λ (p : ℕ). rows_of_place (with_table base rows rest) p ≡ T p) is
            (rows_of_place-here base rows rest (no_rows base (base + 1) more (omega arith)) ∙ from_head base rows more from)
        | inr differ ↦ rows_of_place-other base place rows rest differ
            ∙ rows_found place (base + 1) more (from_tail base rows more from) (omega (arith, low, differ)) (omega (arith, within))
      ]

  -- a table of the list is that of a place from one on, and is not empty
  pub record IsTableOf (base : ℕ) (table : PlaceTable) : Type 0 where
    pub low : base ≤ table.place.0
    pub rows : table.rows ≡ T table.place.0
    pub some : 1 ≤ length table.rows

  -- the tables are such, and rise
  pub tables_found : (base : ℕ) (lists : List (List GraphRow)) → AreFrom base lists → All (IsTableOf base) (tables_of base lists) × AllPairs ByPlace (tables_of base lists)
  tables_found base [] from = (All-nil (IsTableOf base), AllPairs-nil ByPlace)
  tables_found base (rows ∷ more) from = grind (arith, from_tail, from_head, tables_found (base + 1) more (from_tail base rows more from))

module _ (n : NetworkModel) (valid : IsValid n) (q : Query) (graph : ExpandedGraph) (pruned : IsPruned n q graph) (coherent : IsCoherent n graph) where
  abbrev T : ℕ → List GraphRow
  T place = gathered_rows n place graph.rides []

  abbrev target : ℕ
  target = q.target.0

  abbrev choice : Leg → ℕ → Option Leg
  choice = pick_after graph.rides

  row_of_ride : (place : ℕ) (x : GraphRow) → Contains (T place) x → IsOf n place graph.rides x
  row_of_ride place x = All-contains (IsOf n place graph.rides) (T place) x (All-gathered_rows n place graph.rides)

  row_at : (place : ℕ) (x : GraphRow) → Contains (T place) x → IsRowAt n graph place x
  row_at place x has = let found = row_of_ride place x has in (found.r, found.has, found.ends, found.there)

  -- rows of one moment are one, since they have one leg
  before : (place : ℕ) (a b : GraphRow) → Contains (T place) a → Contains (T place) b → row_cmp a b ≡ Less → a.by.0 < b.by.0
  before place a b here there is = elim (ordering_then-Less (nat_cmp a.by.0 b.by.0) (leg_cmp a.leg b.leg) is) [
    | inl less ↦ nat_cmp-Less a.by.0 b.by.0 less
    | inr both ↦ absurd (precedes_itself a.leg b.leg (leg_cmp-Less a.leg b.leg both.1)
        (coherent.agree place a b (row_at place a here) (row_at place b there) (exact_unsigned a.by.0 b.by.0 both.0)))
  ]

  rises : (place : ℕ) → AllPairs (λ a b. a.by.0 < b.by.0) (T place)
  rises place i j d below within = before place (slice_index_or (T place) i d) (slice_index_or (T place) j d)
      (Contains-get_or (T place) i d (omega (arith, below, within))) (Contains-get_or (T place) j d within)
      (Less-from_sorted row_cmp (T place) i j d (IsStrictlySortedBy-gathered_rows n place graph.rides) below within)

  by_limit : (place : ℕ) (x : GraphRow) → Contains (T place) x → limit_of n place x.leg ≡ Some x.by.0
  by_limit place x has =
      let found = row_of_ride place x has in
      grind (arith, All-contains)

  ready_ride : (r : Ride) → Contains graph.rides r → IsReadyRide n target r
  ready_ride r = All-contains (IsReadyRide n target) graph.rides r pruned.ready.rides

  -- the place's first row in time has the leg that the ride's own rows pick
  record IsSameFirst (r : Ride) (x : ℕ) : Type 0 where
    e : GraphRow
    first : IsFirstInTime (T (end_of n r.leg)) x e
    has : Contains (T (end_of n r.leg)) e
    picks : pick_row r.after x ≡ Some e.leg

  same_first : (r : Ride) → Contains graph.rides r → (o : Outcome) → Contains (outcomes_of n r.leg) o → (row : GraphRow) → Contains r.after row
      → arrival_of n r.leg o.delay ≤ row.by.0 → IsSameFirst r (arrival_of n r.leg o.delay)
  same_first r has o outcome row there after =
      let place = end_of n r.leg in
      let x = arrival_of n r.leg o.delay in
      let first = some_first (T place) x row (Contains-gathered_rows n place graph.rides [] r has refl row there) after in
      let own = first_there (T place) x first.0 first.1 in
      record {
        e = first.0;
        first = first.1;
        has = own.1;
        picks = coherent.picks r has o outcome first.0 (record {
          there = row_at place first.0 own.1;
          in_time = own.0;
          least = λ other at. first_least (T place) (rises place) x first.0 first.1 other (Contains-gathered_rows n place graph.rides [] at.0 at.1 at.2 other at.3);
        });
      }

  module _ (start : Leg) (starts : graph.start ≡ Some start) (lists : List (List GraphRow)) (many : length lists ≡ length n.change)
      (each : (i : ℕ) → i < length n.change → slice_index_or lists i [] ≡ T i) where
    abbrev tables : List PlaceTable
    tables = tables_of 0 lists

    abbrev plan : PlanGraph
    plan = record { start = Some start; tables = tables }

    abbrev plan_choice : Leg → ℕ → Option Leg
    plan_choice = by_place n (pick_at tables)

    abbrev whole : Tree
    whole = unfolding_of n q choice (Some start)

    starts_as : unfold_expanded graph n q ≡ whole
    starts_as = ap (λ (s : Option Leg). unfolding_of n q choice s) starts

    differ : q.source.0 ≢ target
    differ = (subst (λ (s : Option Leg). MatchOption s (q.source.0 ≡ target) (λ leg. (q.source.0 ≢ target) × IsLegOf n leg)) starts pruned.ready.starts).0

    safe : IsSafeForSome n q whole
    safe = subst (λ (tree : Tree). IsSafeForSome n q tree) starts_as pruned.ready.safe

    begins : StandsSafely n target (Some safe.0) choice whole start
    begins = start_placed n q choice start differ safe

    from : AreFrom T 0 lists
    from = record { each = λ i inside. each i (omega (arith, inside, many)) ∙ ap T (let e : i ≡ 0 + i = omega arith in e) }

    rows_at : (place : ℕ) → place < length n.change → rows_of_place tables place ≡ T place
    rows_at place inside = rows_found T place 0 lists from (omega arith) (omega (arith, inside, many))

    found : All (IsTableOf T 0) tables × AllPairs ByPlace tables
    found = tables_found T 0 lists from

    ends_inside : (leg : Leg) → IsLegOf n leg → end_of n leg < length n.change
    ends_inside leg is_leg = (valid.connections leg.exit.0 is_leg.exit).to_in

    next : (leg : Leg) → StandsSafely n target (Some safe.0) choice whole leg → end_of n leg ≢ target → (o : Outcome) → Contains (outcomes_of n leg) o
        → IsPlacedNext n target (Some safe.0) choice whole leg (arrival_of n leg o.delay)
    next leg placed = next_after n target (Some safe.0) choice whole leg placed

    picks_same : (leg : Leg) → StandsSafely n target (Some safe.0) choice whole leg → (o : Outcome) → Contains (outcomes_of n leg) o
        → (t : IsPlacedNext n target (Some safe.0) choice whole leg (arrival_of n leg o.delay)) → plan_choice leg (arrival_of n leg o.delay) ≡ Some t.next
    picks_same leg placed o outcome t =
        let x = arrival_of n leg o.delay in
        let r = ride_there graph.rides leg x t.next t.is_chosen in
        let picks : pick_row r.found.after x ≡ Some t.next = ap (λ (list : List GraphRow). pick_row list x) (sym r.same_rows) ∙ t.is_chosen in
        let row = picked_first r.found.after x t.next picks in
        let own = first_there r.found.after x row.0 row.1 in
        let find = subst (λ (l : Leg). (u : Outcome) → Contains (outcomes_of n l) u → arrival_of n l u.delay ≤ row.0.by.0 → (e : GraphRow)
        × IsFirstInTime (T (end_of n l)) (arrival_of n l u.delay) e × (pick_row r.found.after (arrival_of n l u.delay) ≡ Some e.leg)) r.same_leg
        (λ u h a. let s = same_first r.found r.has u h row.0 own.1 a in (s.e, s.first, s.picks)) in
        let f = find o outcome own.0 in
        ap (λ (list : List GraphRow). pick_row list x) (rows_at (end_of n leg) (ends_inside leg placed.is_leg))
        ∙ first_pick (T (end_of n leg)) x f.0 f.1
        ∙ ap (λ (l : Leg). Some l) (one_found (pick_row r.found.after x) f.0.leg t.next f.2 picks)

    pub unfolds : unfold_plan plan n q ≡ unfold_expanded graph n q
    unfolds =
        unfold_from-together n target plan_choice choice (StandsSafely n target (Some safe.0) choice whole)
        (λ leg placed away o outcome.
        let t = next leg placed away o outcome in
        record { next = t.next; is_chosen = picks_same leg placed o outcome t; is_other = t.is_chosen; holds = t.placed })
        start begins q.source.0 q.start.0
        ∙ sym starts_as

    safe_start : IsFitStart n q start
    safe_start = grind (arith, common_steps, nat_tests)

    fit_row : (place : ℕ) (x : GraphRow) → Contains (T place) x → IsFitRow n place x
    fit_row place x has =
        let source = row_of_ride place x has in
        grind (arith, All-contains, ready_ride, by_limit)

    fit_table : (table : PlaceTable) → Contains tables table → IsFitTable n table
    fit_table table has =
        let own = All-contains (IsTableOf T 0) tables table found.0 has in
        record {
          some = own.some;
          rows = subst (All (IsFitRow n table.place.0)) (sym own.rows) (All-from_contains (IsFitRow n table.place.0) (T table.place.0) (fit_row table.place.0));
          rising = subst (λ (list : List GraphRow). AllPairs (λ a b. a.by.0 < b.by.0) list) (sym own.rows) (rises table.place.0);
        }

    pub fit : IsFit n q plan
    fit = record {
      starts = safe_start;
      tables = All-from_contains (IsFitTable n) tables fit_table;
      rising = found.1;
    }

    picks_row : (table : PlaceTable) → Contains tables table → (row : GraphRow) → Contains (T table.place.0) row → IsPickedIn n target (unfold_plan plan n q) table row
    picks_row table has_table row has =
        let place = table.place.0 in
        let source = row_of_ride place row has in
        let r = source.r in
        let idle = All-contains (IsPickedAfter n target r) r.after row (All-contains (λ s. All (IsPickedAfter n target s) s.after) graph.rides r pruned.busy.picked source.has) source.there in
        let o = idle.1.0 in
        let x = arrival_of n r.leg o.delay in
        let own = first_there r.after x row idle.1.2 in
        let s = same_first r source.has o idle.1.1 row source.there own.0 in
        let leg : s.e.leg ≡ row.leg = one_found (pick_row r.after x) s.e.leg row.leg s.picks (first_pick r.after x row idle.1.2) in
        let by : s.e.by.0 ≡ row.by.0 = one_found (limit_of n place row.leg) s.e.by.0 row.by.0
        (ap (limit_of n place) (sym leg) ∙ subst (λ (p : ℕ). limit_of n p s.e.leg ≡ Some s.e.by.0) source.ends (by_limit (end_of n r.leg) s.e s.has)) (by_limit place row has) in
        let first : IsFirstInTime (T (end_of n r.leg)) x row = subst (λ (w : GraphRow). IsFirstInTime (T (end_of n r.leg)) x w) (ap₂ row_by by leg) s.first in
        let there : IsFirstInTime (T place) x row = subst (λ (p : ℕ). IsFirstInTime (T p) x row) source.ends first in
        let rows = (All-contains (IsTableOf T 0) tables table found.0 has_table).rows in
        let stands = subst (λ (tree : Tree). Stands r.leg tree) (sym unfolds) (All-contains (λ s. Stands s.leg (unfold_expanded graph n q)) graph.rides r pruned.busy.stands source.has) in
        (subst (λ (p : ℕ). p ≢ target) source.ends idle.0, (r.leg, stands, source.ends, (o, idle.1.1, subst (λ (list : List GraphRow). IsFirstInTime list x row) (sym rows) there)))

    pub tidy : IsTidy n q plan
    tidy = record {
      fit = fit;
      picked = All-from_contains (λ table. All (IsPickedIn n target (unfold_plan plan n q) table) table.rows) tables (λ table has.
          let rows = (All-contains (IsTableOf T 0) tables table found.0 has).rows in
          All-from_contains (IsPickedIn n target (unfold_plan plan n q) table) table.rows (λ row there. picks_row table has row (subst (λ (list : List GraphRow). Contains list row) rows there)));
    }
