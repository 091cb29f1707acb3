-- Rows that are gathered.
use Rattle.graph_compact.proofs.Common.{◌≡◌, ◌≢◌, ℕ, ◌+◌, ◌≤◌, ◌<◌, List, [], ◌∷◌, length, drop, All, AllPairs, Contains, arith, sym, subst, refl, inl, inr, ◌∙◌, ap, slice_index_or, slice_set}
use Rattle.graph_compact.proofs.Common.{nat_cmp, BTreeSet, ne_eqb, eq-eqb, get_or-set_same, get_or-set_other, cases_lt, cases_eq, at_drop_more, length-map, map-set, All-nil, All-head, All-tail}
use Rattle.graph_compact.proofs.Common.{CmpEqualImpliesEq, exact_unsigned, exact_pairs, Leg, NetworkModel, end_of, GraphRow, Ride, PlaceTable, IsFirstInTime, leg_cmp, row_by, Contains-nil}
use Rattle.graph_compact.proofs.Common.{Contains-head, Contains-tail, Contains-cons_cases, All-from_contains, AllPairs-head, AllPairs-tail, leg_cmp-total, leg_cmp-exact, row_cmp, put_rows}
use Rattle.graph_compact.proofs.Common.{with_ride, gathered_rows, lists_of, rows_in, with_table}
use Rattle.std.specs.{Cmp.{IsTotalOrder, on_total, then_total}, BTreeSet.insert_key, List.Sorted.IsStrictlySortedBy}
use Rattle.std.proofs.lemmas.{Cmp.nat_cmp_total, Map.Views.All-insert_key}
use Rattle.plan_graph.proofs.Sets.{Contains-insert_key, Contains-inserted_key, IsStrictlySortedBy-insert_key}

pub with_rows : (place : ℕ) (rows : List GraphRow) (more : List PlaceTable) → 0 < length rows → with_table place rows more ≡ record { place = record { 0 = place }; rows = rows } ∷ more
with_rows place rows more h1 = grind arith

pub without_rows : (place : ℕ) (rows : List GraphRow) (more : List PlaceTable) → length rows ≡ 0 → with_table place rows more ≡ more
without_rows place rows more h1 = grind arith

row_cmp-total : IsTotalOrder row_cmp
row_cmp-total = then_total (on_total (λ (row : GraphRow). row.by.0) nat_cmp_total) (on_total (λ (row : GraphRow). row.leg) leg_cmp-total)

-- rows that compare as equal are the same
pub row_cmp-exact : CmpEqualImpliesEq row_cmp
row_cmp-exact a b is = ap (λ (parts : ℕ × Leg). row_by parts.0 parts.1) (exact_pairs nat_cmp leg_cmp exact_unsigned leg_cmp-exact (a.by.0, a.leg) (b.by.0, b.leg) is)

-- what holds of the new rows and of those of before holds of all
All-put_rows : (P : GraphRow → Type 0) (more rows : List GraphRow) → All P more → All P rows → All P (put_rows more rows)
All-put_rows P [] rows each all = all
All-put_rows P (row ∷ more) rows each all =
    All-put_rows P more (insert_key row_cmp rows row) (All-tail P row more each) (All-insert_key row_cmp row P rows all (All-head P row more each))

Contains-put_rows : (more rows : List GraphRow) (x : GraphRow) → Contains rows x → Contains (put_rows more rows) x
Contains-put_rows [] rows x has = has
Contains-put_rows (row ∷ more) rows x has = Contains-put_rows more (insert_key row_cmp rows row) x (Contains-insert_key row_cmp rows row x has)

Contains-rows_put : (more rows : List GraphRow) (x : GraphRow) → Contains more x → Contains (put_rows more rows) x
Contains-rows_put [] rows x has = absurd (Contains-nil x has)
Contains-rows_put (row ∷ more) rows x has = elim (Contains-cons_cases row more x has) [
  | inl is ↦ Contains-put_rows more (insert_key row_cmp rows row) x (subst (λ (y : GraphRow). Contains (insert_key row_cmp rows row) y) is (Contains-inserted_key row_cmp row_cmp-exact rows row))
  | inr there ↦ Contains-rows_put more (insert_key row_cmp rows row) x there
]

IsStrictlySortedBy-put_rows : (more rows : List GraphRow) → IsStrictlySortedBy row_cmp rows → IsStrictlySortedBy row_cmp (put_rows more rows)
IsStrictlySortedBy-put_rows [] rows sorted = sorted
IsStrictlySortedBy-put_rows (row ∷ more) rows sorted = IsStrictlySortedBy-put_rows more (insert_key row_cmp rows row) (IsStrictlySortedBy-insert_key row_cmp-total rows row sorted)

module _ (n : NetworkModel) (place : ℕ) where
  with_ride-there : (r : Ride) (rows : List GraphRow) → end_of n r.leg ≡ place → with_ride n place r rows ≡ put_rows r.after rows
  with_ride-there r rows is = rw (eq-eqb (end_of n r.leg) place is)

  with_ride-away : (r : Ride) (rows : List GraphRow) → end_of n r.leg ≢ place → with_ride n place r rows ≡ rows
  with_ride-away r rows away = rw (ne_eqb (end_of n r.leg) place away)

  -- what holds of rows and stays where those after a ride that ends there are put holds of all that are gathered
  gathered_rows-keeps : (P : List GraphRow → Type 0) (rides : List Ride) → ((r : Ride) → Contains rides r → end_of n r.leg ≡ place → (rows : List GraphRow) → P rows → P (put_rows r.after rows))
      → (rows : List GraphRow) → P rows → P (gathered_rows n place rides rows)
  gathered_rows-keeps P [] puts rows all = all
  gathered_rows-keeps P (r ∷ rides) puts rows all = gathered_rows-keeps P rides (λ s has. puts s (Contains-tail r rides s has)) (with_ride n place r rows) (elim (cases_eq (end_of n r.leg) place) [
    | inl is ↦ subst P (sym (with_ride-there r rows is)) (puts r (Contains-head r rides) is rows all)
    | inr away ↦ subst P (sym (with_ride-away r rows away)) all
  ])

  -- a row comes after a ride that ends there
  pub record IsOf (rides : List Ride) (x : GraphRow) : Type 0 where
    pub r : Ride
    pub has : Contains rides r
    pub ends : end_of n r.leg ≡ place
    pub there : Contains r.after x

  pub All-gathered_rows : (rides : List Ride) → All (IsOf rides) (gathered_rows n place rides [])
  All-gathered_rows rides = gathered_rows-keeps (All (IsOf rides)) rides
      (λ r has ends rows. All-put_rows (IsOf rides) r.after rows (All-from_contains (IsOf rides) r.after (λ x there. record { r = r; has = has; ends = ends; there = there })))
      [] (All-nil (IsOf rides))

  pub Contains-gathered_rows : (rides : List Ride) (rows : List GraphRow) (r : Ride) → Contains rides r → end_of n r.leg ≡ place → (x : GraphRow) → Contains r.after x
      → Contains (gathered_rows n place rides rows) x
  Contains-gathered_rows [] rows r has ends x there = absurd (Contains-nil r has)
  Contains-gathered_rows (head ∷ rides) rows r has ends x there = elim (Contains-cons_cases head rides r has) [
    | inl is ↦
        let put = Contains-rows_put r.after rows x there in
        let list = subst (λ (s : Ride). Contains (with_ride n place s rows) x) (sym is) (subst (λ (list : List GraphRow). Contains list x) (sym (with_ride-there r rows ends)) put) in
        gathered_rows-keeps (λ all. Contains all x) rides (λ s has ends all. Contains-put_rows s.after all x) (with_ride n place head rows) list
    | inr more ↦ Contains-gathered_rows rides (with_ride n place head rows) r more ends x there
  ]

  pub IsStrictlySortedBy-gathered_rows : (rides : List Ride) → IsStrictlySortedBy row_cmp (gathered_rows n place rides [])
  unfolding IsStrictlySortedBy
  IsStrictlySortedBy-gathered_rows rides = gathered_rows-keeps (IsStrictlySortedBy row_cmp) rides (λ r has ends. IsStrictlySortedBy-put_rows r.after) [] tt

-- the first row that is not before a moment is there, if any is
pub some_first : (rows : List GraphRow) (x : ℕ) (row : GraphRow) → Contains rows row → x ≤ row.by.0 → (e : GraphRow) × IsFirstInTime rows x e
some_first [] x row has after = absurd (Contains-nil row has)
some_first (head ∷ rows) x row has after = elim (cases_lt head.by.0 x) [
  | inr early ↦ (head, inl (early, refl))
  | inl late ↦ elim (Contains-cons_cases head rows row has) [
    | inl is ↦ absurd (let same = ap (λ (r : GraphRow). r.by.0) is in omega (arith, same, late, after))
    | inr more ↦ let found = some_first rows x row more after in (found.0, inr (late, found.1))
  ]
]

-- among rising rows it is the earliest
pub first_least : (rows : List GraphRow) → AllPairs (λ a b. a.by.0 < b.by.0) rows → (x : ℕ) (e : GraphRow) → IsFirstInTime rows x e
    → (other : GraphRow) → Contains rows other → x ≤ other.by.0 → e.by.0 ≤ other.by.0
first_least [] rising x e first other has after = absurd first
first_least (head ∷ rows) rising x e (inl both) other has after = elim (Contains-cons_cases head rows other has) [
  | inl is ↦ let same = ap (λ (r : GraphRow). r.by.0) (both.1 ∙ is) in omega (arith, same)
  | inr more ↦
      let same = ap (λ (r : GraphRow). r.by.0) both.1 in
      let less = AllPairs-head (λ a b. a.by.0 < b.by.0) head rows rising other more in
      omega (arith, same, less)
]
first_least (head ∷ rows) rising x e (inr both) other has after = elim (Contains-cons_cases head rows other has) [
  | inl is ↦ absurd (let same = ap (λ (r : GraphRow). r.by.0) is in omega (arith, same, both.0, after))
  | inr more ↦ first_least rows (AllPairs-tail (λ a b. a.by.0 < b.by.0) head rows rising) x e both.1 other more after
]

-- after one ride more
pub gather_step : (n : NetworkModel) (rides : List Ride) (i : ℕ) (r : Ride) (tables : List (BTreeSet GraphRow)) (end : ℕ) (table : BTreeSet GraphRow) (place : ℕ)
    → i < length rides → r ≡ slice_index_or rides i r → end ≡ end_of n r.leg → end < length tables → table.keys ≡ put_rows r.after (rows_in tables end)
    → gathered_rows n place (drop (i + 1) rides) (rows_in (slice_set tables end table) place) ≡ gathered_rows n place (drop i rides) (rows_in tables place)
gather_step n rides i r tables end table place within is ends inside puts =
    let lists = lists_of tables in
    let many : length lists ≡ length tables = length-map tables (λ table. table.keys) in
    let written = ap (λ (all : List (List GraphRow)). slice_index_or all place []) (map-set (λ (t : BTreeSet GraphRow). t.keys) tables end table) in
    let step : rows_in (slice_set tables end table) place ≡ with_ride n place r (rows_in tables place) = written ∙ elim (cases_eq place end) [
      | inl here ↦
          subst (λ (p : ℕ). slice_index_or (slice_set lists end table.keys) p [] ≡ with_ride n p r (rows_in tables p)) (sym here)
          (get_or-set_same lists end table.keys [] (omega (arith, inside, many)) ∙ puts ∙ sym (with_ride-there n end r (rows_in tables end) (sym ends)))
      | inr away ↦
          get_or-set_other lists end place table.keys [] away
          ∙ sym (with_ride-away n place r (rows_in tables place) (λ same. away (sym same ∙ sym ends)))
    ] in
    ap (gathered_rows n place (drop (i + 1) rides)) step
    ∙ ap (λ (s : Ride). gathered_rows n place (s ∷ drop (i + 1) rides) (rows_in tables place)) is
    ∙ sym (at_drop_more (λ list. gathered_rows n place list (rows_in tables place)) rides i r within)
