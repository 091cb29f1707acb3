-- Tables and rows that rise, searched by binary search.
use Rattle.plan_graph.proofs.Common.{◌≡◌, ℕ, ◌<◌, true, false, List, [], length, Some, None, AllPairs, arith, subst, refl, inl, inr, nat_lt, nat_le, slice_index_or, Bool, Bor, ne_eqb, lt-ltb}
use Rattle.plan_graph.proofs.Common.{ltb-true, ltb-false, AllWithin, IsPartitionedBy, IsPartitionPoint, cases_lt, IsPartitionPoint-from_clause, nat_tests, GraphRow, PlaceTable, found_at}
use Rattle.plan_graph.proofs.Common.{found_nowhere, pick_row, rows_of_place, is_table_of}
use Rattle.std.specs.Fn.{Mut, Called, ComputesKey}

-- a list that rises is parted by a number
pub parted : {X : Type 0} (f : X → ℕ) (xs : List X) (t : ℕ) → AllPairs (λ a b. f a < f b) xs → IsPartitionedBy (λ x. nat_lt (f x) t) xs
parted f xs t rise i j d before within is = grind (arith, cases_lt, lt-ltb, ltb-true)

-- so the place that a search by a number finds parts it
pub parted_at : {X F : Type 0} {g : Mut F (Bor X × Unit {0}) Bool} {f : F} (key : X → ℕ) (xs : List X) (t i : ℕ)
    → ((q : X → Bool) → ComputesKey g q f → IsPartitionedBy q xs → IsPartitionPoint (λ x. q x ≡ true) (λ x. q x ≡ false) xs i)
    → AllPairs (λ a b. key a < key b) xs → ((a : Bor X × Unit {0}) (r : Bool) (h : F) → Called g f a r h → (r ≡ nat_lt (key a.0.now) t) × (h ≡ f))
    → IsPartitionPoint (λ x. nat_lt (key x) t ≡ true) (λ x. nat_lt (key x) t ≡ false) xs i
parted_at key xs t i clause rise called = IsPartitionPoint-from_clause (λ x. nat_lt (key x) t) xs i clause (parted key xs t rise) called

-- what is picked is the row at which those before an arrival end
pub pick_row-at : (rows : List GraphRow) (x i : ℕ) (d : GraphRow) → AllWithin (λ r. nat_lt r.by.0 x ≡ true) rows 0 i → i < length rows
    → nat_lt (slice_index_or rows i d).by.0 x ≡ false → pick_row rows x ≡ Some (slice_index_or rows i d).leg
pick_row-at rows x i d before within from = found_at (λ rs. pick_row rs x) (λ r. nat_le x r.by.0) (λ r. Some r.leg) None refl (λ r rs. refl) rows i d within
    (λ k below. let less = before k d (omega arith) below in grind (arith, nat_tests)) (grind (arith, nat_tests))

pub pick_row-none : (rows : List GraphRow) (x : ℕ) → AllWithin (λ r. nat_lt r.by.0 x ≡ true) rows 0 (length rows) → pick_row rows x ≡ None
pick_row-none rows x before = found_nowhere (λ rs. pick_row rs x) (λ r. nat_le x r.by.0) (λ r. Some r.leg) None refl (λ r rs. refl) rows no_row
    (λ k within. let less = before k no_row (omega arith) within in grind (arith, nat_tests))
  where
    no_row : GraphRow
    no_row = record { by = record { 0 = x }; leg = record { enter = record { 0 = 0 }; exit = record { 0 = 0 } } }

-- the rows of a place are those of the table at which the places before it end
pub rows_of_place-at : (tables : List PlaceTable) (p i : ℕ) (d : PlaceTable) → AllWithin (λ t. nat_lt t.place.0 p ≡ true) tables 0 i
    → i < length tables → (slice_index_or tables i d).place.0 ≡ p → rows_of_place tables p ≡ (slice_index_or tables i d).rows
rows_of_place-at tables p i d before within is = found_at (λ ts. rows_of_place ts p) (is_table_of p) (λ t. t.rows) [] refl (λ t ts. refl) tables i d within
    (λ k below. let less = before k d (omega arith) below in grind (arith, nat_tests)) (grind (arith, nat_tests))

-- where the table at which they end is not the place's, no table is
pub rows_of_place-none : (tables : List PlaceTable) (p i : ℕ) → AllPairs (λ a b. a.place.0 < b.place.0) tables
    → IsPartitionPoint (λ t. nat_lt t.place.0 p ≡ true) (λ t. nat_lt t.place.0 p ≡ false) tables i
    → ((d : PlaceTable) → i < length tables → (slice_index_or tables i d).place.0 ≡ p → ⊥) → rows_of_place tables p ≡ []
rows_of_place-none tables p i rise point other = found_nowhere (λ ts. rows_of_place ts p) (is_table_of p) (λ t. t.rows) [] refl (λ t ts. refl) tables d
    (λ k within. ne_eqb (slice_index_or tables k d).place.0 p (λ is. elim (cases_lt k i) [
      | inl less ↦ let before = ltb-true (slice_index_or tables k d).place.0 p (point.0 k d (omega arith) less) in omega (arith, before, is)
      | inr from ↦ elim (cases_lt i k) [
        | inl more ↦
            let rises = rise i k d more within in
            grind (arith, ltb-false, slice_index_or)
        | inr same ↦ let e : k ≡ i = omega (arith, from, same) in other d (omega (arith, e, within)) (subst (λ (m : ℕ). (slice_index_or tables m d).place.0 ≡ p) e is)
      ]
    ]))
  where
    d : PlaceTable
    d = record { place = record { 0 = p }; rows = [] }
