-- The shifted network is valid, and a view of the network.
use Rattle.late_chance.proofs.Common.{◌≡◌, ℕ, ◌-◌, ◌<◌, ◌≤◌, refl, sym, ap, ◌∙◌, inl, inr, ⊎_elim, arith, leb-true, le-leb, length-map, get_or-map, NetworkModel, IsValid, IsValidConnection}
use Rattle.late_chance.proofs.Common.{PrecedesByStep, count, connection, no_connection, dep_of, arr_of, run_of, step_of, change_of, row_of, IsSeen, IsView, shifted_connection, shifted_parts}
use Rattle.std.proofs.{Math.Logic.∥∥₁_map, lemmas.Bool.{and_parts, and_from}}
use Rattle.plan_model.specs.declared.model.Connection.{Connection}

one_seen : (shift start : ℕ) → shift ≤ start → (c : Connection) → IsSeen shift start (shifted_connection shift start c) c
one_seen shift start soon c = grind (arith, and_parts, leb-true, and_from, le-leb)

module _ (shift start : ℕ) (m : NetworkModel) where
  abbrev seen : NetworkModel
  seen = shifted_parts shift start m

  at : (i : ℕ) → i < count m → connection seen i ≡ shifted_connection shift start (connection m i)
  unfolding connection
  at i h = get_or-map (shifted_connection shift start) m.connections i no_connection no_connection h

  as_many : count seen ≡ count m
  as_many = length-map m.connections (shifted_connection shift start)

  pub view : shift ≤ start → IsView seen m shift start
  unfolding change_of
  view soon = record {
    as_many = as_many;
    connections = λ i h. rw (at i h) (one_seen shift start soon (connection m i));
    classes = refl;
    ways = λ p r inside there. refl;
  }

  module _ (v : IsValid m) where
    inside : (i : ℕ) → i < count seen → i < count m
    inside i h = omega (arith, h, as_many)

    parts_at : (i : ℕ) → i < count m → (run_of seen i ≡ run_of m i) × (step_of seen i ≡ step_of m i) × (dep_of seen i ≡ dep_of m i - shift) ×
        (arr_of seen i ≡ arr_of m i - shift)
    parts_at i h =
        let e = at i h in
        (ap (λ (c : Connection). c.run.0) e, ap (λ (c : Connection). c.step) e, ap (λ (c : Connection). c.dep.0) e, ap (λ (c : Connection). c.arr.0) e)

    rises : (i j : ℕ) → i < j → j < count seen → PrecedesByStep seen i j
    rises i j less h =
        let k = inside j h in
        let (a, c, d, e) = parts_at i (omega arith) in
        let (b, f, g, l) = parts_at j k in
        ⊎_elim (λ before. inl (omega arith)) (λ same. inr (a ∙ same.0 ∙ sym b, let s = same.1 in omega arith)) (v.rising i j less k)

    goes_on : (i j : ℕ) → i < j → j < count seen → run_of seen i ≡ run_of seen j → arr_of seen i ≤ dep_of seen j
    goes_on i j less h run =
        let k = inside j h in
        let one = parts_at i (omega arith) in
        let other = parts_at j k in
        grind arith

    one_valid : (i : ℕ) → i < count seen → IsValidConnection seen i
    one_valid i h =
        let k = inside i h in
        let c = v.connections i k in
        let e = at i k in
        grind arith

    each_run : (i r : ℕ) → i < count seen → r < run_of seen i → ∥ ((j : ℕ) × (j < count seen) × (run_of seen j ≡ r)) ∥₁
    each_run i r h less =
        let k = inside i h in
        ∥∥₁_map (v.runs i r k (omega (arith, (parts_at i k).0, less)))
        (λ found. (found.0, omega (arith, found.1, as_many), (parts_at found.0 found.1).0 ∙ found.2))

    pub valid : IsValid seen
    unfolding change_of row_of
    valid = record {
      rising = rises;
      onward = goes_on;
      connections = one_valid;
      runs = each_run;
      changes = v.changes;
      links = v.links;
      rows = v.rows;
      few_connections = let few = v.few_connections in omega (arith, as_many);
      few_places = v.few_places;
      few_classes = v.few_classes;
      class_0 = v.class_0;
    }
