-- A graph for a view, with all moments greater by the shift, is one for the network.
use Rattle.late_chance.proofs.Common.{◌≡◌, ℕ, ◌+◌, ◌<◌, ◌≤◌, Option, Some, List, [], ◌∷◌, length, map, All, Contains, refl, sym, ap, ◌∙◌, subst, inl, inr, arith, MatchOption, length-map, Outcome}
use Rattle.late_chance.proofs.Common.{Query, NetworkModel, from_of, dep_of, outcomes, Tree, Ride, Kids, Nil, Kid, IsSafe, AreSafe, IsSafeFromStart, IsSafeFor, later_by, all_later_by}
use Rattle.late_chance.proofs.Common.{limit_of-some, way_takes, earlier_by-is, seen, leg_there, departs, same_way, start_there, GraphRow, PlanGraph, IsFitRow, IsFitTable, IsFitStart, IsFit}
use Rattle.late_chance.proofs.Common.{IsPickedIn, IsTidy, unfold_plan, later_row, later_table, later_graph, later_query, IsShown, LaterAlike}
use Rattle.std.proofs.lemmas.List.Elements.{All-map, All-weaker}
use Rattle.plan_model.specs.{declared.model.Leg.Leg, Ways.limit_of, Unfold.{end_of, arrival_of, by_place}}
use Rattle.plan_model.proofs.{LaterTrees.{same_end, same_arrival, same_row, unfold_from-later}, Lists.AllPairs-map}
use Rattle.plan_graph.specs.{declared.PlaceTable.PlaceTable, Unfold.{pick_row, pick_at, rows_of_place}, Ready.{IsLegOf, Stands, StandsIn, IsFirstInTime}}
use Rattle.plan_graph.proofs.Picked.{picked_leg}

-- what the later rows pick
pick_row-later : (shift : ℕ) (rows : List GraphRow) (x : ℕ) → pick_row (map (later_row shift) rows) (x + shift) ≡ pick_row rows x
pick_row-later shift [] x = refl
pick_row-later shift (r ∷ rows) x = grind (arith, pick_row-later shift rows x)

rows_of-later : (shift : ℕ) (tables : List PlaceTable) (p : ℕ) → rows_of_place (map (later_table shift) tables) p ≡ map (later_row shift) (rows_of_place tables p)
rows_of-later shift [] p = refl
rows_of-later shift (t ∷ tables) p = grind (arith, rows_of-later shift tables p)

pick_at-later : (shift : ℕ) (tables : List PlaceTable) (p x : ℕ) → pick_at (map (later_table shift) tables) p (x + shift) ≡ pick_at tables p x
pick_at-later shift tables p x = grind (arith, rows_of-later, pick_row-later)

-- what all elements are, what is made of them is
all_mapped : {A B : Type 0} (f : A → B) (P : A → Type 0) (Q : B → Type 0) (xs : List A) → ((a : A) → P a → Q (f a)) → All P xs → All Q (map f xs)
all_mapped f P Q xs to all = All-map Q f xs (All-weaker P (λ a. Q (f a)) to xs all)

-- a leg that is in a safe tree is one of the network
module _ (n : NetworkModel) (target : ℕ) (by : Option ℕ) (leg : Leg) where
  mutual
    stands : (tree : Tree) (p x : ℕ) → IsSafe n target by tree p x → Stands leg tree → IsLegOf n leg
    stands (Ride i j kids) p x h (inl here) = let e = here.0 in let f = here.1 in rw (e, f) h.1
    stands (Ride i j kids) p x h (inr below) = stands_in kids (outcomes n j) _ _ h.3 below
    stands _ p x h there = absurd there

    stands_in : (kids : Kids) (row : List Outcome) (p a : ℕ) → AreSafe n target by kids row p a → StandsIn leg kids → IsLegOf n leg
    stands_in Nil row p a h there = absurd there
    stands_in (Kid w tree kids) [] p a h there = absurd h
    stands_in (Kid w tree kids) (o ∷ os) p a h (inl here) = stands tree p (a + o.delay) h.1 here
    stands_in (Kid w tree kids) (o ∷ os) p a h (inr below) = stands_in kids os p a h.2 below

  stands_start : (tree : Tree) (source x : ℕ) → IsSafeFromStart n target by tree source x → Stands leg tree → IsLegOf n leg
  stands_start tree source x h there = grind (arith, stands_in)

mutual
  stands_later : (shift : ℕ) (leg : Leg) (tree : Tree) → Stands leg tree → Stands leg (later_by shift tree)
  stands_later shift leg (Ride i j kids) (inl here) = inl here
  stands_later shift leg (Ride i j kids) (inr below) = inr (stands_in_later shift leg kids below)
  stands_later shift leg _ there = absurd there

  stands_in_later : (shift : ℕ) (leg : Leg) (kids : Kids) → StandsIn leg kids → StandsIn leg (all_later_by shift kids)
  stands_in_later shift leg Nil there = absurd there
  stands_in_later shift leg (Kid w tree kids) (inl here) = inl (stands_later shift leg tree here)
  stands_in_later shift leg (Kid w tree kids) (inr below) = inr (stands_in_later shift leg kids below)

is_first-later : (shift : ℕ) (rows : List GraphRow) (x : ℕ) (row : GraphRow) → IsFirstInTime rows x row → IsFirstInTime (map (later_row shift) rows) (x + shift) (later_row shift row)
is_first-later shift [] x row h = absurd h
is_first-later shift (r ∷ rows) x row (inl h) = inl (let e = h.0 in omega arith, ap (later_row shift) h.1)
is_first-later shift (r ∷ rows) x row (inr h) = inr (let e = h.0 in omega arith, is_first-later shift rows x row h.1)

module _ (n m : NetworkModel) (shift first : ℕ) (q : Query) (shown : IsShown n m shift first q) where
  abbrev there : (leg : Leg) → IsLegOf n leg → IsLegOf m leg × (first ≤ dep_of m leg.enter.0)
  there leg is = leg_there n m shift first shown.view shown.valid leg.enter.0 leg.exit.0 is

  later_dep : (leg : Leg) → IsLegOf n leg → dep_of n leg.enter.0 + shift ≡ dep_of m leg.enter.0
  later_dep leg is = departs n m shift first shown.view shown.valid leg.enter.0 leg.exit.0 (there leg is).0 (there leg is).1

  limit_later : (p : ℕ) (leg : Leg) (by : ℕ) → IsLegOf n leg → limit_of n p leg ≡ Some by → limit_of m p leg ≡ Some (by + shift)
  limit_later p leg by is limit =
      let l = limit_of-some n p leg by limit in
      let inside = (way_takes n shown.valid_view p (from_of n leg.enter.0) l.0 (shown.valid_view.connections leg.enter.0 is.enter).from_in l.1).0 in
      let same = ap (λ (c : List ℕ). length c) shown.same_places in
      let way = same_way n m shift first shown.view shown.valid p leg.enter.0 l.0 (omega arith) (there leg is).0.enter l.1 in
      rw way (earlier_by-is (dep_of m leg.enter.0) l.0 (by + shift) (let before = l.2 in let dep = later_dep leg is in omega arith))

  row_later : (p : ℕ) (row : GraphRow) → IsFitRow n p row → IsFitRow m p (later_row shift row)
  row_later p row fit = record { is_leg = (there row.leg fit.is_leg).0; by = limit_later p row.leg row.by.0 fit.is_leg fit.by }

  table_later : (table : PlaceTable) → IsFitTable n table → IsFitTable m (later_table shift table)
  table_later table fit = record {
    some = let s = fit.some in simp length-map (omega arith);
    rows = all_mapped (later_row shift) (IsFitRow n table.place.0) (IsFitRow m table.place.0) table.rows (row_later table.place.0) fit.rows;
    rising = AllPairs-map (later_row shift) (λ a b. a.by.0 < b.by.0) table.rows (λ i j d before within. let less = fit.rising i j d before within in omega arith);
  }

  start_later : (leg : Leg) → IsFitStart n q leg → IsFitStart m (later_query shift q) leg
  start_later leg fit = grind (arith, there, seen, later_dep)

  starts_later : (o : Option Leg) (tables : List PlaceTable) → MatchOption o ((q.source.0 ≡ q.target.0) × (tables ≡ [])) (IsFitStart n q)
      → MatchOption o ((q.source.0 ≡ q.target.0) × (map (later_table shift) tables ≡ [])) (IsFitStart m (later_query shift q))
  starts_later o tables h = grind (arith, start_later)

  module _ (graph : PlanGraph) where
    fit_later : IsFit n q graph → IsFit m (later_query shift q) (later_graph shift graph)
    fit_later fit = record {
      starts = starts_later graph.start graph.tables fit.starts;
      tables = all_mapped (later_table shift) (IsFitTable n) (IsFitTable m) graph.tables table_later fit.tables;
      rising = AllPairs-map (later_table shift) (λ a b. a.place.0 < b.place.0) graph.tables fit.rising;
    }

    begins : IsFit n q graph → (leg : Leg) → graph.start ≡ Some leg → IsLegOf n leg
    begins fit leg is = (subst (λ (o : Option Leg). MatchOption o ((q.source.0 ≡ q.target.0) × (graph.tables ≡ [])) (IsFitStart n q)) is fit.starts).is_leg

    legs : IsFit n q graph → (leg : Leg) (x : ℕ) (next : Leg) → pick_at graph.tables (end_of n leg) x ≡ Some next → IsLegOf n next
    legs fit leg x next = picked_leg n graph.tables fit.tables (end_of n leg) x next

    pub unfolds : IsFit n q graph → unfold_plan (later_graph shift graph) m (later_query shift q) ≡ later_by shift (unfold_plan graph n q)
    unfolds fit =
        unfold_from-later n m shift first shown.view shown.valid q.target.0
        (by_place n (pick_at graph.tables)) (by_place m (pick_at (map (later_table shift) graph.tables)))
        (λ leg x is. ap (λ (p : ℕ). pick_at (map (later_table shift) graph.tables) p (x + shift))
        (sym (same_end n m shift first shown.view shown.valid q.target.0 leg is)) ∙ pick_at-later shift graph.tables (end_of n leg) x)
        (legs fit)
        graph.start q.source.0 q.start.0 (begins fit)

    pub safe_later : IsFit n q graph → IsSafeFor n q (unfold_plan graph n q) → IsSafeFor m (later_query shift q) (unfold_plan (later_graph shift graph) m (later_query shift q))
    safe_later fit safe =
        rw (unfolds fit) (start_there n m shift first shown.view shown.valid q.target.0 (Some q.deadline.0) (unfold_plan graph n q) q.source.0 q.start.0 safe)

    module _ (fit : IsFit n q graph) (safe : IsSafeFor n q (unfold_plan graph n q)) where
      abbrev before : Tree
      before = unfold_plan graph n q

      abbrev after : Tree
      after = unfold_plan (later_graph shift graph) m (later_query shift q)

      picked_later : (table : PlaceTable) (row : GraphRow) → IsPickedIn n q.target.0 before table row → IsPickedIn m q.target.0 after (later_table shift table) (later_row shift row)
      picked_later table row picked =
          let leg = picked.1.0 in
          let stood = picked.1.1 in
          let is = stands_start n q.target.0 (Some q.deadline.0) leg before q.source.0 q.start.0 safe stood in
          let stands_on = subst (λ (t : Tree). Stands leg t) (sym (unfolds fit)) (stands_later shift leg before stood) in
          let ends = sym (same_end n m shift first shown.view shown.valid q.target.0 leg is) ∙ picked.1.2 in
          let o = picked.1.3.0 in
          let outcome = subst (λ (os : List Outcome). Contains os o) (same_row n m shift first shown.view shown.valid q.target.0 leg is) picked.1.3.1 in
          let moment : arrival_of n leg o.delay + shift ≡ arrival_of m leg o.delay = let a = same_arrival n m shift first shown.view shown.valid q.target.0 leg is in omega arith in
          let is_first = subst (λ (y : ℕ). IsFirstInTime (map (later_row shift) table.rows) y (later_row shift row)) moment
          (is_first-later shift table.rows (arrival_of n leg o.delay) row picked.1.3.2) in
          (picked.0, (leg, stands_on, ends, (o, outcome, is_first)))

    pub alike : IsTidy n q graph → IsSafeFor n q (unfold_plan graph n q) → LaterAlike n m shift q graph
    alike tidy safe = record {
      unfolds = unfolds tidy.fit;
      safe = safe_later tidy.fit safe;
      tidy = record {
        fit = fit_later tidy.fit;
        picked = all_mapped (later_table shift)
            (λ table. All (IsPickedIn n q.target.0 (unfold_plan graph n q) table) table.rows)
            (λ table. All (IsPickedIn m q.target.0 (unfold_plan (later_graph shift graph) m (later_query shift q)) table) table.rows)
            graph.tables
            (λ table all. all_mapped (later_row shift)
            (IsPickedIn n q.target.0 (unfold_plan graph n q) table)
            (IsPickedIn m q.target.0 (unfold_plan (later_graph shift graph) m (later_query shift q)) (later_table shift table))
            table.rows (picked_later tidy.fit safe table) all)
            tidy.picked;
      };
    }
