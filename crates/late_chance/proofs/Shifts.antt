-- From a graph over the network that is seen for a promise to one over the network.
use Rattle.late_chance.proofs.Common.{◌≡◌, ℕ, ◌+◌, ◌-◌, ◌<◌, ◌≤◌, ◌^◌, All, get_or, Some, subst, refl, arith, Interval, Query, end_of_arrivals, end_of_time, NetworkModel, IsValid, Tree}
use Rattle.late_chance.proofs.Common.{IsSafeFor, later_by, limit_of-some, start_there, GraphRow, PlanGraph, IsTidy, IsFitRow, promised, SECONDS_PER_WEEK, later_graph, later_query, IsShown}
use Rattle.late_chance.proofs.{Common.{IsPunctual, PunctualAlike, IsAboutNetwork, shift_for, seen_for, asked_for}, SeenFrom.{valid, view}, Punctual.punctual_alike}
use Rattle.plan_model.specs.declared.model.PlaceId.{PlaceId}

same_query : (source target : PlaceId) (a b c d : ℕ) → a ≡ b → c ≡ d →
    ◌≡◌ {A = Query} (record { source = source; target = target; start = record { 0 = a }; deadline = record { 0 = c } })
    (record { source = source; target = target; start = record { 0 = b }; deadline = record { 0 = d } })
same_query source target a b c d e f = rw (e, f) refl

-- a row of a graph that fits is before the last departure
early_row : (n : NetworkModel) → IsValid n → (place : ℕ) (row : GraphRow) → IsFitRow n place row → row.by.0 < end_of_arrivals
early_row n v place row fit = grind (arith, limit_of-some)

module _ (m : NetworkModel) (q : Query) (promise : ℕ) (v : IsValid m) (early : q.start.0 < end_of_time) (order : q.start.0 ≤ q.deadline.0)
    (past : SECONDS_PER_WEEK ≤ promise) (later : q.start.0 ≤ promise) (soon : promise ≤ q.start.0 + SECONDS_PER_WEEK) where
  abbrev shift : ℕ
  shift = shift_for promise

  abbrev n : NetworkModel
  n = seen_for m q promise

  abbrev asked : Query
  asked = asked_for q promise

  shown : IsShown n m shift q.start.0 asked
  shown = record { view = view shift q.start.0 m (omega arith); same_places = refl; valid_view = valid shift q.start.0 m v; valid = v; late = omega arith }

  back : later_query shift asked ≡ q
  back = same_query q.source q.target (q.start.0 - shift + shift) q.start.0 (q.deadline.0 - shift + shift) q.deadline.0 (omega arith) (omega arith)

  alike : PunctualAlike n m shift asked
  alike = punctual_alike n m shift q.start.0 asked shown

  graphs : (graph : PlanGraph) (chance : Interval) → IsPunctual n asked promised graph chance → IsPunctual m q promise (later_graph shift graph) chance
  graphs graph chance p =
      let whole : promised + shift ≡ promise = omega arith in
      let reported = subst (λ (k : Query). IsPunctual m k (promised + shift) (later_graph shift graph) chance) back (alike.graphs promised graph chance p) in
      subst (λ (k : ℕ). IsPunctual m q k (later_graph shift graph) chance) whole reported

  in_range : (graph : PlanGraph) → IsTidy n asked graph → All (λ table. All (λ row. row.by.0 + shift < 2 ^ 64) table.rows) graph.tables
  in_range graph tidy k table h j row l =
      let row_early = early_row n shown.valid_view (get_or graph.tables k table).place.0 (get_or (get_or graph.tables k table).rows j row) ((tidy.fit.tables k table h).rows j row l) in
      omega arith

  none : ((tree : Tree) → IsSafeFor n asked tree → ⊥) → (tree : Tree) → IsSafeFor m q tree → ⊥
  none nothing = subst (λ (k : Query). (tree : Tree) → IsSafeFor m k tree → ⊥) back (alike.none nothing)

  none_back : ((tree : Tree) → IsSafeFor m q tree → ⊥) → (tree : Tree) → IsSafeFor n asked tree → ⊥
  none_back nothing tree safe =
      let there = start_there n m shift q.start.0 shown.view v q.target.0 (Some asked.deadline.0) tree q.source.0 asked.start.0 safe in
      nothing (later_by shift tree) (subst (λ (k : Query). IsSafeFor m k (later_by shift tree)) back there)

  pub reports : IsAboutNetwork m q promise
  reports = record { graphs = graphs; in_range = in_range; none = none; none_back = none_back }
