-- The legs of a graph that fit, and those that do not.
use Rattle.graph_score.proofs.Common.{◌≡◌, ℕ, ◌+◌, ◌<◌, List, [], ◌∷◌, ◌++◌, length, map, take, drop, Option, Some, None, All, arith, sym, subst, ◌∙◌, ap, refl, Contains, slice_index_or, MatchOption}
use Rattle.graph_score.proofs.Common.{flat_map, take-append-drop, length-take, length-take-le, get_or-take, AllWithin, drop_more, All-append, All-contains, All-map, All-nil, All-tail, All-cons}
use Rattle.graph_score.proofs.Common.{Contains-append_left, Contains-append_right, Leg, Query, NetworkModel, IsValid, count, limit_of-some, way_takes, PlaceTable, PlanGraph, IsFit, IsFitStart}
use Rattle.graph_score.proofs.Common.{IsFitRow, Contains-head, Contains-map, All-from_contains, GraphLeg, Start, Row, exit_of, IsFitLeg, IsFirstWrong, start_leg, legs_in, legs_of, AreFitRows}
use Rattle.plan_graph.specs.declared.GraphRow.{GraphRow}

-- a row that fits is at a place of the network
pub fit_place : (n : NetworkModel) → IsValid n → (p : ℕ) (row : GraphRow) → IsFitRow n p row → p < length n.change
fit_place n valid p row fit = grind (arith, limit_of-some, way_takes)

-- the k-th element of a list with what comes before and after it
split_at : {X : Type 0} (xs : List X) (k : ℕ) (d : X) → k < length xs → xs ≡ take k xs ++ slice_index_or xs k d ∷ drop (k + 1) xs
split_at xs k d within = sym (take-append-drop k xs) ∙ ap (λ rest. take k xs ++ rest) (drop_more xs k d within)

take_each : {X : Type 0} (P : X → Type 0) (xs : List X) (k : ℕ) → AllWithin P xs 0 k → All P (take k xs)
take_each P xs k each i d within = grind (arith, length-take, get_or-take)

pub first_wrong_is : (n : NetworkModel) (q : Query) (legs : List GraphLeg) (k : ℕ) (d : GraphLeg) → k < length legs → AllWithin (IsFitLeg n q) legs 0 k
    → (IsFitLeg n q (slice_index_or legs k d) → ⊥) → IsFirstWrong n q legs (k + 1)
first_wrong_is n q legs k d within fit breaks = record {
  before = take k legs;
  wrong = slice_index_or legs k d;
  others = drop (k + 1) legs;
  split = split_at legs k d within;
  number = let e = length-take-le k legs (omega (arith, within)) in omega (arith, e);
  fit = take_each (IsFitLeg n q) legs k fit;
  breaks = breaks;
}

-- what holds of what f gives for each element holds of all that it gives
pub each_flat : {X Y : Type 0} (P : Y → Type 0) (f : X → List Y) (xs : List X) → All (λ x. All P (f x)) xs → All P (flat_map f xs)
each_flat P f [] each = All-nil P
each_flat P f (x ∷ xs) each = All-append P (f x) (flat_map f xs) (each 0 x (omega arith)) (each_flat P f xs (All-tail (λ y. All P (f y)) x xs each))

each_left : {Y : Type 0} (P : Y → Type 0) (xs ys : List Y) → All P (xs ++ ys) → All P xs
each_left P xs ys each = All-from_contains P xs (λ x has. All-contains P (xs ++ ys) x each (Contains-append_left xs ys x has))

each_right : {Y : Type 0} (P : Y → Type 0) (xs ys : List Y) → All P (xs ++ ys) → All P ys
each_right P xs ys each = All-from_contains P ys (λ y has. All-contains P (xs ++ ys) y each (Contains-append_right xs ys y has))

each_unmapped : {X Y : Type 0} (P : Y → Type 0) (f : X → Y) (xs : List X) → All P (map f xs) → All (λ x. P (f x)) xs
each_unmapped P f xs each = All-from_contains (λ x. P (f x)) xs (λ x has. All-contains P (map f xs) (f x) each (Contains-map f xs x has))

-- what holds of all legs of rows holds of each table's
pub each_row : (P : GraphLeg → Type 0) (tables : List PlaceTable) → All P (flat_map legs_in tables) → All (λ t. All (λ row. P (Row t.place row)) t.rows) tables
each_row P [] each = All-nil (λ (t : PlaceTable). All (λ row. P (Row t.place row)) t.rows)
each_row P (table ∷ tables) each =
    All-cons (λ (t : PlaceTable). All (λ row. P (Row t.place row)) t.rows) table tables
    (each_unmapped P (λ row. Row table.place row) table.rows (each_left P (legs_in table) (flat_map legs_in tables) each))
    (each_row P tables (each_right P (legs_in table) (flat_map legs_in tables) each))

-- and of each row of a graph
pub each_row_of : (P : GraphLeg → Type 0) (graph : PlanGraph) → All P (legs_of graph) → All (λ t. All (λ row. P (Row t.place row)) t.rows) graph.tables
each_row_of P graph each = each_row P graph.tables (each_right P (start_leg graph.start) (flat_map legs_in graph.tables) each)

-- where all legs fit, so do all rows
pub rows_fit : (n : NetworkModel) (q : Query) (graph : PlanGraph) → All (IsFitLeg n q) (legs_of graph) → AreFitRows n graph.tables
rows_fit n q graph each k d within i e inside = (each_row_of (IsFitLeg n q) graph each k d within i e inside).1

-- each leg ends with a connection of the network
pub exits_there : (n : NetworkModel) (q : Query) (legs : List GraphLeg) → All (IsFitLeg n q) legs → All (λ leg. (exit_of leg).0 < count n) legs
exits_there n q legs each k d within = grind arith

-- and the start leg, where there is one
pub start_fits : (n : NetworkModel) (q : Query) (graph : PlanGraph) (leg : Leg) → All (IsFitLeg n q) (legs_of graph) → graph.start ≡ Some leg → IsFitStart n q leg
start_fits n q graph leg each is = grind (arith, each_left)

-- each leg of a graph that fits does
pub fit_legs : (n : NetworkModel) (q : Query) (graph : PlanGraph) → IsFit n q graph → All (IsFitLeg n q) (legs_of graph)
fit_legs n q graph fit = by_start graph.start fit.starts
  where
    away : (leg : Leg) → IsFitStart n q leg → All (IsFitLeg n q) (flat_map legs_in graph.tables)
    away leg start = each_flat (IsFitLeg n q) legs_in graph.tables
        (λ k d within. All-map (IsFitLeg n q) (λ row. Row (slice_index_or graph.tables k d).place row) (slice_index_or graph.tables k d).rows
        (λ i e inside. (start.differ, (fit.tables k d within).rows i e inside)))

    by_start : (start : Option Leg) → MatchOption start ((q.source.0 ≡ q.target.0) × (graph.tables ≡ [])) (IsFitStart n q) → All (IsFitLeg n q) (start_leg start ++ flat_map legs_in graph.tables)
    by_start None is = subst (λ (tables : List PlaceTable). All (IsFitLeg n q) (flat_map legs_in tables)) (sym is.1) (All-nil (IsFitLeg n q))
    by_start (Some leg) is = All-cons (IsFitLeg n q) (Start leg) (flat_map legs_in graph.tables) is (away leg is)

-- where all legs fit none is wrong
pub none_wrong : (n : NetworkModel) (q : Query) (legs : List GraphLeg) (k : ℕ) → All (IsFitLeg n q) legs → IsFirstWrong n q legs k → ⊥
none_wrong n q legs k each wrong =
    let there = Contains-append_right wrong.before (wrong.wrong ∷ wrong.others) wrong.wrong (Contains-head wrong.wrong wrong.others) in
    wrong.breaks (All-contains (IsFitLeg n q) (wrong.before ++ wrong.wrong ∷ wrong.others) wrong.wrong (subst (All (IsFitLeg n q)) wrong.split each) there)

-- the start leg is one that ends with its exit
pub start_exits : (graph : PlanGraph) (leg : Leg) → graph.start ≡ Some leg → Contains (map exit_of (legs_of graph)) leg.exit
start_exits graph leg is = subst (λ start. Contains (map exit_of (start_leg start ++ flat_map legs_in graph.tables)) leg.exit) (sym is) (0, omega arith, refl)
