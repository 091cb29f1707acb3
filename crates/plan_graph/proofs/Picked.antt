-- What is picked is the leg of a row.
use Rattle.plan_graph.proofs.Common.{◌≡◌, ℕ, ◌<◌, ◌≤◌, true, false, List, [], ◌∷◌, Some, All, arith, sym, subst, refl, inl, inr, ◌∙◌, nat_le, cases_lt, cases_eq, nat_tests, All-nil, All-tail}
use Rattle.plan_graph.proofs.Common.{Leg, Query, NetworkModel, GraphRow, PlaceTable, pick_row, pick_at, rows_of_place, is_table_of, HasRisingTables, IsLegOf}
use Rattle.plan_graph.specs.{declared.PlanGraph.PlanGraph, Tidy.{IsFitRow, IsFitTable, IsFit}}

pub pick_here : (row : GraphRow) (rows : List GraphRow) (x : ℕ) → x ≤ row.by.0 → pick_row (row ∷ rows) x ≡ Some row.leg
pick_here row rows x soon = let e : nat_le x row.by.0 ≡ true = grind (arith, nat_tests) in rw e refl

pub pick_further : (row : GraphRow) (rows : List GraphRow) (x : ℕ) → row.by.0 < x → pick_row (row ∷ rows) x ≡ pick_row rows x
pick_further row rows x late = let e : nat_le x row.by.0 ≡ false = grind (arith, nat_tests) in rw e refl

-- what is picked is the leg of a row that is in time
pub row_of_pick : (P : GraphRow → Type 0) (rows : List GraphRow) (x : ℕ) (leg : Leg) → All P rows → pick_row rows x ≡ Some leg → (row : GraphRow) × P row × (x ≤ row.by.0) × (row.leg ≡ leg)
row_of_pick P [] x leg each is = absurd (cc)
row_of_pick P (row ∷ rows) x leg each is = elim (cases_lt row.by.0 x) [
  | inl late ↦ row_of_pick P rows x leg (All-tail P row rows each) (sym (pick_further row rows x late) ∙ is)
  | inr soon ↦ let both = sym (pick_here row rows x soon) ∙ is in (row, each 0 row (omega arith), soon, (cc))
]

pub table_here : (table : PlaceTable) (tables : List PlaceTable) (p : ℕ) → table.place.0 ≡ p → rows_of_place (table ∷ tables) p ≡ table.rows
table_here table tables p here = let e : is_table_of p table ≡ true = grind (arith, nat_tests) in rw e refl

pub table_further : (table : PlaceTable) (tables : List PlaceTable) (p : ℕ) → (table.place.0 ≡ p → ⊥) → rows_of_place (table ∷ tables) p ≡ rows_of_place tables p
table_further table tables p away = let e : is_table_of p table ≡ false = grind (arith, nat_tests) in rw e refl

-- what holds by the place of no rows and of those of each table holds of those of a place
pub rows_of_place-by : (P : ℕ → List GraphRow → Type 0) (tables : List PlaceTable) (p : ℕ) → P p [] → All (λ t. P t.place.0 t.rows) tables → P p (rows_of_place tables p)
rows_of_place-by P [] p none each = none
rows_of_place-by P (table ∷ tables) p none each = elim (cases_eq table.place.0 p) [
  | inl here ↦ subst (P p) (sym (table_here table tables p here)) (subst (λ (k : ℕ). P k table.rows) here (each 0 table (omega arith)))
  | inr away ↦ subst (P p) (sym (table_further table tables p away)) (rows_of_place-by P tables p none (All-tail (λ (t : PlaceTable). P t.place.0 t.rows) table tables each))
]

-- the leg that is picked at a place, where the tables fit
pub picked_leg : (n : NetworkModel) (tables : List PlaceTable) → All (IsFitTable n) tables → (place x : ℕ) (leg : Leg) → pick_at tables place x ≡ Some leg → IsLegOf n leg
picked_leg n tables fit place x leg is =
    let rows = rows_of_place-by (λ at. All (IsFitRow n at)) tables place (All-nil (IsFitRow n place)) (λ k d within. (fit k d within).rows) in
    let found = row_of_pick (IsFitRow n place) (rows_of_place tables place) x leg rows is in
    subst (λ (l : Leg). IsLegOf n l) found.3 found.1.is_leg

-- the tables of a graph that fits rise
pub fit_rises : (n : NetworkModel) (q : Query) (graph : PlanGraph) → IsFit n q graph → HasRisingTables graph
fit_rises n q graph fit = record {
  places = fit.rising;
  rows = λ k d within. (fit.tables k d within).rising;
  some = λ k d within. (fit.tables k d within).some;
}
