-- A tidy graph by place follows from its tree.
use Rattle.run_laws.proofs.Common.{◌≡◌, ◌≢◌, ℕ, ◌<◌, ◌≤◌, List, [], ◌∷◌, length, Option, Some, None, MatchOption, All, AllPairs, Contains, arith, sym, subst, refl, inl, inr, ◌∙◌, ap, ap₂}
use Rattle.run_laws.proofs.Common.{cases_eq, All-nil, All-contains, Leg, Query, NetworkModel, Tree, end_of, arrival_of, unfolding_of, by_place, GraphRow, PlanGraph, pick_row, pick_at}
use Rattle.run_laws.proofs.Common.{rows_of_place, IsSafeForSome, unfold_plan, table_here, table_further, rows_of_place-by, one_found, first_pick, picked_there, Contains-nil, Contains-head}
use Rattle.run_laws.proofs.{Common.{Contains-tail, Contains-cons_cases, AllPairs-head, AllPairs-tail}, Rising.{HasAll, one_rising}, Agree.{start_same, agree_from}}
use Rattle.plan_model.specs.Ways.{limit_of}
use Rattle.plan_graph.specs.{declared.PlaceTable.PlaceTable, Tidy.{IsFitRow, IsFitTable, IsFitStart, IsPickedIn, IsTidy}, Walked.row_by}

-- a row is given by its moment and its leg
pub row_same : (a b : GraphRow) → a.by.0 ≡ b.by.0 → a.leg ≡ b.leg → a ≡ b
row_same a b by leg = ap₂ row_by by leg

-- rows of one leg that fit at one place are the same
one_row : (n : NetworkModel) (p : ℕ) (a b : GraphRow) → a.leg ≡ b.leg → IsFitRow n p a → IsFitRow n p b → a ≡ b
one_row n p a b leg fit other = row_same a b (one_found (limit_of n p b.leg) a.by.0 b.by.0 (ap (limit_of n p) (sym leg) ∙ fit.by) other.by) leg

-- a row that fits is among rows that fit, where these pick its leg
row_of_leg : (n : NetworkModel) (p x : ℕ) (rows : List GraphRow) (row : GraphRow) → All (IsFitRow n p) rows → IsFitRow n p row → pick_row rows x ≡ Some row.leg → Contains rows row
row_of_leg n p x rows row fits fit is = grind (arith, picked_there, one_row, All-contains)

abbrev table_of : ℕ → List GraphRow → PlaceTable
table_of place rows = record { place = record { 0 = place }; rows = rows }

abbrev graph_of : Option Leg → List PlaceTable → PlanGraph
graph_of start tables = record { start = start; tables = tables }

abbrev pub Sooner : GraphRow → GraphRow → Type 0
Sooner a b = a.by.0 < b.by.0

abbrev Lower : PlaceTable → PlaceTable → Type 0
Lower a b = a.place.0 < b.place.0

-- where the places rise, the rows of a table's place are its own
rows_own : (tables : List PlaceTable) → AllPairs Lower tables → (t : PlaceTable) → Contains tables t → rows_of_place tables t.place.0 ≡ t.rows
rows_own [] up t has = absurd (Contains-nil t has)
rows_own (head ∷ tables) up t has = elim (Contains-cons_cases head tables t has) [
  | inl is ↦ table_here head tables t.place.0 (ap (λ (u : PlaceTable). u.place.0) is) ∙ ap (λ (u : PlaceTable). u.rows) is
  | inr more ↦
      let less = AllPairs-head Lower head tables up t more in
      table_further head tables t.place.0 (λ is. omega (arith, less, is)) ∙ rows_own tables (AllPairs-tail Lower head tables up) t more
]

-- where a place has a row it has a table
table_of_row : (tables : List PlaceTable) (p : ℕ) (row : GraphRow) → Contains (rows_of_place tables p) row
    → (t : PlaceTable) × Contains tables t × (t.place.0 ≡ p) × (rows_of_place tables p ≡ t.rows)
table_of_row [] p row has = absurd (Contains-nil row has)
table_of_row (head ∷ tables) p row has = grind (arith, cases_eq, Contains-head, table_here, table_further, Contains-tail, table_of_row tables p row)

-- a table that fits has a row
some_row : (rows : List GraphRow) → 1 ≤ length rows → (row : GraphRow) × Contains rows row
some_row [] some = absurd (omega (arith, some))
some_row (row ∷ rows) some = (row, Contains-head row rows)

module _ (n : NetworkModel) (q : Query) where
  abbrev FromStart : List PlaceTable → Option Leg → Tree
  FromStart tables start = unfolding_of n q (by_place n (pick_at tables)) start

  -- what holds of graphs that have one safe tree
  record IsOne (a b : List PlaceTable) (start : Leg) : Type 0 where
    safe : IsSafeForSome n q (FromStart a (Some start))
    same : FromStart a (Some start) ≡ FromStart b (Some start)
    differ : q.source.0 ≢ q.target.0
    fit : All (IsFitTable n) a
    rising : AllPairs Lower a
    picked : All (λ table. All (IsPickedIn n q.target.0 (FromStart a (Some start)) table) table.rows) a
    fit_other : All (IsFitTable n) b

  -- a row of the one is at its index in the other
  row_there : (a b : List PlaceTable) (start : Leg) → IsOne a b start → (t : PlaceTable) → Contains a t → (row : GraphRow) → Contains t.rows row
      → Contains (rows_of_place b t.place.0) row
  row_there a b start one t has row there =
      let p = t.place.0 in
      let its = All-contains (IsFitTable n) a t one.fit has in
      let fit = All-contains (IsFitRow n p) t.rows row its.rows there in
      let found_in = All-contains (IsPickedIn n q.target.0 (FromStart a (Some start)) t) t.rows row
      (All-contains (λ table. All (IsPickedIn n q.target.0 (FromStart a (Some start)) table) table.rows) a t one.picked has) there in
      let (leg, stands, ends, after) = found_in.1 in
      let (o, outcome, first) = after in
      let x = arrival_of n leg o.delay in
      let own : pick_at a p x ≡ Some row.leg = ap (λ (rows : List GraphRow). pick_row rows x) (rows_own a one.rising t has) ∙ first_pick t.rows x row first in
      let agree : pick_at a (end_of n leg) x ≡ pick_at b (end_of n leg) x =
      agree_from n q.target.0 (by_place n (pick_at a)) (by_place n (pick_at b)) (Some one.safe.0) start q.source.0 q.start.0 one.differ one.same one.safe.1 leg stands
      (λ is. found_in.0 (sym ends ∙ is)) o outcome in
      let both : pick_at a p x ≡ pick_at b p x = subst (λ (e : ℕ). pick_at a e x ≡ pick_at b e x) ends agree in
      let fits = rows_of_place-by (λ at. All (IsFitRow n at)) b p (All-nil (IsFitRow n p)) (λ k d within. (one.fit_other k d within).rows) in
      row_of_leg n p x (rows_of_place b p) row fits fit (sym both ∙ own)

  -- a table of the one is a table of the other
  table_there : (a b : List PlaceTable) (start : Leg) → IsOne a b start → IsOne b a start → HasAll a b
  table_there a b start one back t has =
      let p = t.place.0 in
      let fit = All-contains (IsFitTable n) a t one.fit has in
      let some = some_row t.rows fit.some in
      let (u, there, place, rows) = table_of_row b p some.0 (row_there a b start one t has some.0 some.1) in
      let others = All-contains (IsFitTable n) b u one.fit_other there in
      let same : t.rows ≡ u.rows = one_rising Sooner (λ x y less more. omega (arith, less, more)) t.rows u.rows fit.rising others.rising
      (λ row own. subst (λ (list : List GraphRow). Contains list row) rows (row_there a b start one t has row own))
      (λ row own. subst (λ (list : List GraphRow). Contains list row) (ap (rows_of_place a) place ∙ rows_own a one.rising t has)
      (row_there b a start back u there row own)) in
      subst (λ (table : PlaceTable). Contains b table) (ap₂ table_of place (sym same)) there

  one_list : (a b : List PlaceTable) (start : Leg) → IsOne a b start → IsOne b a start → a ≡ b
  one_list a b start one back = one_rising Lower (λ x y less more. omega (arith, less, more)) a b one.rising back.rising (table_there a b start one back) (table_there b a start back one)

  one_of : (a b : PlanGraph) (start : Leg) → a.start ≡ Some start → b.start ≡ Some start → IsTidy n q a → IsTidy n q b → IsSafeForSome n q (unfold_plan a n q)
      → unfold_plan a n q ≡ unfold_plan b n q → q.source.0 ≢ q.target.0 → IsOne a.tables b.tables start
  one_of a b start starts others tidy other safe same differ = record {
    safe = subst (λ (s : Option Leg). IsSafeForSome n q (FromStart a.tables s)) starts safe;
    same = ap (FromStart a.tables) (sym starts) ∙ same ∙ ap (FromStart b.tables) others;
    differ = differ;
    fit = tidy.fit.tables;
    rising = tidy.fit.rising;
    picked = subst (λ (s : Option Leg). All (λ table. All (IsPickedIn n q.target.0 (FromStart a.tables s) table) table.rows) a.tables) starts tidy.picked;
    fit_other = other.fit.tables;
  }

  -- by the start leg
  by_start : (a b : PlanGraph) (s t : Option Leg) → a.start ≡ s → b.start ≡ t → IsTidy n q a → IsTidy n q b → IsSafeForSome n q (unfold_plan a n q)
      → unfold_plan a n q ≡ unfold_plan b n q
      → MatchOption s ((q.source.0 ≡ q.target.0) × (a.tables ≡ [])) (IsFitStart n q) → MatchOption t ((q.source.0 ≡ q.target.0) × (b.tables ≡ [])) (IsFitStart n q) → a ≡ b
  by_start a b None h is other tidy tidies safe same none nothing = grind arith
  by_start a b (Some s) None is other tidy tidies safe same fit none = absurd (fit.differ none.0)
  by_start a b (Some s) (Some t) is other tidy tidies safe same fit fits =
      let starts : a.start ≡ b.start = start_same n q.target.0 (by_place n (pick_at a.tables)) (by_place n (pick_at b.tables)) a.start b.start q.source.0 q.start.0 fit.differ same in
      let there = sym starts ∙ is in
      ap₂ graph_of starts (one_list a.tables b.tables s (one_of a b s is there tidy tidies safe same fit.differ)
      (one_of b a s there is tidies tidy (subst (IsSafeForSome n q) same safe) (sym same) fit.differ))

  pub one_tidy : (a b : PlanGraph) → IsTidy n q a → IsTidy n q b → IsSafeForSome n q (unfold_plan a n q) → unfold_plan a n q ≡ unfold_plan b n q → a ≡ b
  one_tidy a b tidy tidies safe same = by_start a b a.start b.start refl refl tidy tidies safe same tidy.fit.starts tidies.fit.starts
