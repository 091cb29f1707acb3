-- A cut file with delays makes one network.
use Rattle.journey_problem.proofs.Common.{◌≡◌, ℕ, ◌<◌, ◌⊎◌, sym, ◌∙◌, subst, arith, List, [], length, get_or, ext_get_or, slice_get-get_or, NameLists, AreDistinct, NetworkModel, same_parts}
use Rattle.journey_problem.proofs.Common.{change_of, connection, count, no_connection, IsValid, row_count, DelayLists, row, IsRide, IsCutNetwork, runs_distinct, places_distinct, one_number}
use Rattle.journey_problem.proofs.OneOrder.{Enumerates, agree, same_size}
use Rattle.plan_model.specs.declared.model.Connection.{Connection}
use Rattle.cut_file.specs.CutRows.{Row}

-- by run, and then by step
abbrev pub Precedes : Connection → Connection → Type 0
Precedes c d = (c.run.0 < d.run.0) ⊎ ((c.run.0 ≡ d.run.0) × (c.step < d.step))

never_both : (c d : Connection) → Precedes c d → Precedes d c → ⊥
never_both c d h is = grind arith

module _ (names : NameLists) (delays : DelayLists) (runs : AreDistinct names.runs) (places : AreDistinct names.places) where
  -- a row has one connection
  same_ride : (r : Row) (c d : Connection) → IsRide names delays r c → IsRide names delays r d → c ≡ d
  same_ride r c d a b = grind (arith, one_number)

module _ (t : List (List (List ℕ))) (delays : DelayLists) (names : NameLists) where
  -- it is the connection of a row
  abbrev pub IsOfRow : Connection → Type 0
  IsOfRow c = (k : ℕ) × (k < row_count t) × IsRide names delays (row t k) c

  module _ (runs : AreDistinct names.runs) (places : AreDistinct names.places) where
    enumerates : (n : NetworkModel) → IsCutNetwork t delays n names → IsValid n → Enumerates (IsOfRow) Precedes (λ i. connection n i) (count n)
    enumerates n is valid = record {
      inside = λ i h. is.rides i h;
      rising = λ i j less h. valid.rising i j less h;
      all = λ c h. let w = is.rows h.0 h.1 in
          (w.0, w.1, same_ride names delays runs places (row t h.0) (connection n w.0) c w.2 h.2);
    }

    same_connections : (n m : NetworkModel) → IsCutNetwork t delays n names → IsCutNetwork t delays m names → IsValid n → IsValid m → n.connections ≡ m.connections
    unfolding connection
    same_connections n m a b valid other =
        let f : ℕ → Connection = λ i. connection n i in
        let g : ℕ → Connection = λ i. connection m i in
        let one = enumerates n a valid in
        let two = enumerates m b other in
        ext_get_or no_connection n.connections m.connections
        (same_size (IsOfRow) Precedes never_both f g (count n) (count m) one two)
        (λ k h. (agree (IsOfRow) Precedes never_both f g (count n) (count m) one two k h).1)

  same_changes : (n m : NetworkModel) → IsCutNetwork t delays n names → IsCutNetwork t delays m names → n.change ≡ m.change
  unfolding change_of
  same_changes n m a b = ext_get_or 0 n.change m.change (a.changes ∙ sym b.changes) (λ p h.
      let inside : p < length names.places = omega (arith, h, a.changes) in
      let name = slice_get-get_or names.places p [] inside in
      a.change p (get_or names.places p []) name ∙ sym (b.change p (get_or names.places p []) name))

  -- a cut file makes one network with its delays
  pub one_network : AreDistinct names.runs → AreDistinct names.places → (n m : NetworkModel)
      → IsCutNetwork t delays n names → IsCutNetwork t delays m names → IsValid n → IsValid m → n ≡ m
  one_network runs places n m a b valid other = grind (arith, same_connections, same_changes, same_parts)

-- the names of a cut file are one list each, of distinct names
pub same_names : (t : List (List (List ℕ))) (delays other : DelayLists) (n m : NetworkModel) (names more : NameLists) → IsCutNetwork t delays n names → IsCutNetwork t other m more → names ≡ more
same_names t delays other n m names more a b = λ i. record { places = (a.places ∙ sym b.places) i; runs = (a.runs ∙ sym b.runs) i }

pub runs_apart : (t : List (List (List ℕ))) (delays : DelayLists) (n : NetworkModel) (names : NameLists) → IsCutNetwork t delays n names → AreDistinct names.runs
runs_apart t delays n names a = subst AreDistinct (sym a.runs) (runs_distinct t (row_count t))

pub places_apart : (t : List (List (List ℕ))) (delays : DelayLists) (n : NetworkModel) (names : NameLists) → IsCutNetwork t delays n names → AreDistinct names.places
places_apart t delays n names a = subst AreDistinct (sym a.places) (places_distinct t (row_count t))
