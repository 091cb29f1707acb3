-- The connections of runs are in order, fit their places and classes, and each run has one.
use Rattle.connections.proofs.Common.{common_steps, ◌≡◌, ℕ, suc, ◌+◌, ◌-◌, ◌<◌, ◌≤◌, ◌⊎◌, inl, ℤ, pos, negsuc, ◌≤ℤ◌, List, length, map, get_or, slice_index, Some, All, refl, sym, ap, ◌∙◌, subst}
use Rattle.connections.proofs.Common.{arith, AllPairs, unsigned_abs, ints, get_or_default, length-map, All-weaker, All-get_or, All-map, Contains-get_or, AllPairs-map, end_of_arrivals}
use Rattle.connections.proofs.Common.{end_of_steps, most_connections, Connection, NameLists, IsTrimmed, NamesFit, IsValid, connection, no_connection, change_of, row_of, NetworkModel}
use Rattle.connections.proofs.Common.{plain_network, DelayLists, StopRow, FeedParts, AreIds, rows_of, AreTimed, IsTimed, Origin, Window, Run, join_below, IsWindow, steps_of, run_at, run_steps}
use Rattle.connections.proofs.{Common.{AreRunsOf, HaveConnections, AreChanges, AreRunNames, connection_from, run_connections, connections_below, class_of_trip, route_of}, JoinLemmas.All-join}
use Rattle.connections.proofs.{JoinLemmas.{AllPairs-join, Contains-join, join-many}, NameLemmas.names_trimmed, ReachLemmas.onward_to, StepLemmas.{IsStep, holds_parts, steps_are, steps_rise}}
use Rattle.plan_model.proofs.Links.{AreLinks-none}
use Rattle.plan_model.specs.declared.model.Outcome.{Outcome}
use Rattle.delay_table.proofs.ClassBounds.{class_for-inside}
use Rattle.delay_table.specs.Slots.{AreDelays}

-- a moment that is not before 1970
pub not_before : (z : ℤ) → pos 0 ≤ℤ z → pos (unsigned_abs z) ≡ z
not_before z h = grind (arith, negsuc)

-- one comes before the other, and the later one of a run departs when the earlier one has arrived
abbrev pub Follows : Connection → Connection → Type 0
Follows a b = (a.run.0 < b.run.0) ⊎ ((a.run.0 ≡ b.run.0) × (a.step < b.step) × (a.arr.0 ≤ b.dep.0))

pub record IsGood (places classes runs : ℕ) (c : Connection) : Type 0 where
  pub forward : c.dep.0 ≤ c.arr.0
  pub early : c.arr.0 < end_of_arrivals
  pub from_in : c.from.0 < places
  pub to_in : c.to.0 < places
  pub class_in : c.class.0 < classes
  pub step_in : c.step < end_of_steps
  pub run_in : c.run.0 < runs

module _ (w : Window) (v : IsWindow w) (rows : List StopRow) (places : ℕ) (t : AreTimed rows places) (o : Origin) (number : ℕ) (class : ℕ → ℕ)
    (classes runs : ℕ) (few : (arr : ℕ) → class arr < classes) (inside : number < runs) where
  abbrev steps : List ℕ
  steps = steps_of w rows o

  good_connection : (k : ℕ) → IsStep w rows o (length rows - 1) k → IsGood places classes runs (connection_from rows o number class k)
  good_connection k s = grind (arith, holds_parts, not_before, ints, unsigned_abs)

  pub good_connections : All (IsGood places classes runs) (map (connection_from rows o number class) steps)
  good_connections = All-map (IsGood places classes runs) (connection_from rows o number class) steps
      (All-weaker (IsStep w rows o (length rows - 1)) (λ k. IsGood places classes runs (connection_from rows o number class k)) good_connection steps (steps_are w rows o
      (length rows - 1)))

  follow : (a b : ℕ) → a < b → IsStep w rows o (length rows - 1) a → IsStep w rows o (length rows - 1) b → Follows (connection_from rows o number class a) (connection_from rows o number class b)
  follow a b l s h =
      let e : a + suc (b - a - 1) ≡ b = omega arith in
      let on = onward_to rows places t a (b - a - 1) (omega (arith, h.inside)) in
      grind (arith, holds_parts)

  pub connections_follow : AllPairs Follows (map (connection_from rows o number class) steps)
  connections_follow = AllPairs-map (connection_from rows o number class) Follows steps (λ i j d l h.
      let are = steps_are w rows o (length rows - 1) in
      follow (get_or steps i d) (get_or steps j d) (steps_rise w rows o (length rows - 1) i j d l h)
      (All-get_or (IsStep w rows o (length rows - 1)) steps i d (omega arith) are) (All-get_or (IsStep w rows o (length rows - 1)) steps j d h are))

-- the connections of runs
pub record AreGood (places classes runs : ℕ) (cs : List Connection) : Type 0 where
  pub good : All (IsGood places classes runs) cs
  pub order : AllPairs Follows cs
  pub each : (r : ℕ) (d : Connection) → r < runs → (j : ℕ) × (j < length cs) × ((get_or cs j d).run.0 ≡ r)

module _ (f : FeedParts) (delays : DelayLists) (w : Window) (v : IsWindow w) (timed : IsTimed f) (rs : List Run) (runs : AreRunsOf f rs) (classes : ℕ)
    (few : (trip arr : ℕ) → class_of_trip f delays trip arr < classes) (some : HaveConnections f w rs) where
  own : (n : ℕ) → n < length rs → All (IsGood (length f.stop_ids) classes (length rs)) (run_connections f delays w rs n) × AllPairs Follows
      (run_connections f delays w rs n)
      × All (λ c. c.run.0 ≡ n) (run_connections f delays w rs n) × (0 < length (run_connections f delays w rs n))
  unfolding run_connections
  own n h =
      let run = run_at rs n in
      let t = timed run.trip (runs.each n h).trip in
      let class = class_of_trip f delays run.trip in
      let made = connection_from (rows_of f run.trip) run.origin n class in (
        good_connections w v (rows_of f run.trip) (length f.stop_ids) t run.origin n class classes (length rs) (few run.trip) h,
        connections_follow w v (rows_of f run.trip) (length f.stop_ids) t run.origin n class classes (length rs) (few run.trip) h,
        All-map (λ (c : Connection). c.run.0 ≡ n) made (run_steps f w run) (λ k d l. refl),
        omega (arith, length-map (run_steps f w run) made, some n h),
      )

  pub all_good : AreGood (length f.stop_ids) classes (length rs) (connections_below f delays w rs (length rs))
  unfolding connections_below
  all_good =
      let all = run_connections f delays w rs in
      record {
        good = All-join (IsGood (length f.stop_ids) classes (length rs)) all (length rs) (λ n h. (own n h).0);
        order = AllPairs-join Follows (λ n c. c.run.0 ≡ n) all (length rs) (λ n h. (own n h).2) (λ n h. (own n h).1) (λ i j x y l h a b. inl (omega
            (arith, l, a, b)));
        each = λ r d h.
            let x = Contains-join all (length rs) r (get_or (all r) 0 d) h (Contains-get_or (all r) 0 d (own r h).3) in (
              x.0,
              x.1,
              ap (λ (c : Connection). c.run.0) (get_or_default (join_below all (length rs)) x.0 d _ x.1 ∙ x.2)
                  ∙ All-get_or (λ (c : Connection). c.run.0 ≡ r) (all r) 0 d (own r h).3 (own r h).2,
            );
      }

-- what the parts of a network are made of
module _ (f : FeedParts) (d : DelayLists) (delays : AreDelays d) (w : Window) (v : IsWindow w) (timed : IsTimed f) (rs : List Run) (runs : AreRunsOf f rs) (some : HaveConnections f w rs)
    (few : length (connections_below f d w rs (length rs)) ≤ most_connections) (change : List ℕ) (changes : AreChanges change)
    (size : length change ≡ length f.stop_ids) (stops : length f.stop_ids < 4294967296) where
  abbrev cs : List Connection
  cs = connections_below f d w rs (length rs)

  class_few : (trip arr : ℕ) → class_of_trip f d trip arr < length d.classes
  class_few trip arr = class_for-inside d delays (Some (slice_index f.route_types trip)) (Some (route_of f trip)) arr

  good : AreGood (length f.stop_ids) (length d.classes) (length rs) cs
  good = all_good f d w v timed rs runs (length d.classes) class_few some

  valid_here : IsValid (plain_network cs change d.classes)
  unfolding connection change_of row_of
  valid_here = grind (arith, common_steps, good, All-get_or, cs, AreLinks-none)

  pub valid : (connections : List Connection) (classes : List (List Outcome)) → connections ≡ cs → classes ≡ d.classes → IsValid (plain_network connections change classes)
  valid connections classes e h = grind (arith, cs, valid_here)

  pub fits : (n : NetworkModel) (names : NameLists) → n.connections ≡ cs → n.change ≡ change → names.places ≡ f.stop_ids → All IsTrimmed f.stop_ids → AreIds f.trip_ids
      → AreRunNames f rs (length rs) names.runs → NamesFit names n
  unfolding connection
  fits n names e h places trimmed ids named =
      let g = good in
      record {
        places = omega (arith, ap length places, ap length h, size);
        below = grind (arith, cs, All-get_or);
        each = λ r l.
            let x = g.each r no_connection (omega (arith, named.size)) in
            ∣ (x.0, omega (arith, x.1, ap length e), ap (λ (xs : List Connection). (get_or xs x.0 no_connection).run.0) e ∙ x.2) ∣₁;
        place_names = subst (All IsTrimmed) (sym places) trimmed;
        run_names = names_trimmed f rs names.runs ids runs named;
      }

-- each run has a connection, so there are no more runs
pub few_runs : (f : FeedParts) (d : DelayLists) (w : Window) (rs : List Run) → HaveConnections f w rs
    → length (connections_below f d w rs (length rs)) ≤ most_connections → length rs ≤ most_connections
unfolding connections_below run_connections
few_runs f d w rs some few = omega (arith, few, join-many (run_connections f d w rs) (length rs) (λ n h. omega (arith, length-map {A = ℕ} {B = Connection}, some n h)))
