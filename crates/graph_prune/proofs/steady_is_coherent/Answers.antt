-- A pruned graph that follows a steady choice is coherent.
use Rattle.graph_prune.proofs.Common.{◌≡◌, ◌≢◌, ℕ, Option, Some, Contains, All, arith, sym, subst, refl, ◌∙◌, ap, All-contains, Leg, Outcome, Query, NetworkModel, limit_of, end_of, arrival_of}
use Rattle.graph_prune.proofs.Common.{outcomes_of, GraphRow, Ride, ExpandedGraph, pick_row, IsPruned, IsByLimits, IsPickedAfter, Follows, IsSteady, first_pick, first_there, picked_there, one_found}
use Rattle.plan_graph.specs.Coherent.{IsCoherent, IsEarliest, IsRowAt}
use Rattle.graph_prune.proofs.steady_is_coherent.Goals as goal

module _ (n : NetworkModel) (q : Query) (graph : ExpandedGraph) (at : ℕ → ℕ → Option Leg)
    (pruned : IsPruned n q graph) (steady : IsSteady n q.target.0 at) (follows : Follows n q.target.0 at graph) where
  by_its_limit : (r : Ride) → Contains graph.rides r → (row : GraphRow) → Contains r.after row → limit_of n (end_of n r.leg) row.leg ≡ Some row.by.0
  by_its_limit r has row there = All-contains (λ w. limit_of n (end_of n r.leg) w.leg ≡ Some w.by.0) r.after row (All-contains (IsByLimits n) graph.rides r pruned.by has) there

  -- a row's leg is chosen at the row's moment
  at_own : (r : Ride) → Contains graph.rides r → (row : GraphRow) → Contains r.after row → (end_of n r.leg ≢ q.target.0) × (at (end_of n r.leg) row.by.0 ≡ Some row.leg)
  at_own r has row there =
      let idle = All-contains (IsPickedAfter n q.target.0 r) r.after row (All-contains (λ s. All (IsPickedAfter n q.target.0 s) s.after) graph.rides r pruned.busy.picked has) there in
      let o = idle.1.0 in
      let x = arrival_of n r.leg o.delay in
      let f = follows r has idle.0 o idle.1.1 in
      let same : f.0 ≡ row.leg = one_found (pick_row r.after x) f.0 row.leg f.1 (first_pick r.after x row idle.1.2) in
      let chosen : at (end_of n r.leg) x ≡ Some row.leg = f.2 ∙ ap (λ (l : Leg). Some l) same in
      let k = steady (end_of n r.leg) x row.leg idle.0 chosen in
      grind (arith, one_found, by_its_limit, first_there)

  at_place : (place : ℕ) (row : GraphRow) → IsRowAt n graph place row → (place ≢ q.target.0) × (at place row.by.0 ≡ Some row.leg)
  at_place place row stands =
      subst (λ (p : ℕ). (p ≢ q.target.0) × (at p row.by.0 ≡ Some row.leg)) stands.2
      (at_own stands.0 stands.1 row stands.3)

  coherent_picks : (r : Ride) → Contains graph.rides r → (o : Outcome) → Contains (outcomes_of n r.leg) o → (row : GraphRow)
      → IsEarliest n graph (end_of n r.leg) (arrival_of n r.leg o.delay) row → pick_row r.after (arrival_of n r.leg o.delay) ≡ Some row.leg
  coherent_picks r contains o outcome row earliest =
      let place = end_of n r.leg in
      let x = arrival_of n r.leg o.delay in
      let own = at_place place row earliest.there in
      let f = follows r contains own.0 o outcome in
      let w = picked_there r.after x f.0 f.1 in
      let k = steady place x f.0 own.0 f.2 in
      let by : w.0.by.0 ≡ k.limit = one_found (limit_of n place f.0) w.0.by.0 k.limit (ap (limit_of n place) (sym w.2) ∙ by_its_limit r contains w.0 w.1) k.is_limit in
      let least = earliest.least w.0 (r, contains, refl, w.1) (omega (arith, by, k.in_time)) in
      let later : at place row.by.0 ≡ Some f.0 = k.kept row.by.0 earliest.in_time (omega (arith, by, least)) in
      f.1 ∙ ap (λ (l : Leg). Some l) (one_found (at place row.by.0) f.0 row.leg later own.1)

  pub coherent_by : IsCoherent n graph
  coherent_by = record {
    agree = λ place a b stands_a stands_b same.
        let one = at_place place a stands_a in
        let two = at_place place b stands_b in
        one_found (at place b.by.0) a.leg b.leg (subst (λ (m : ℕ). at place m ≡ Some a.leg) same one.1) two.1;
    picks = coherent_picks;
  }

pub returns : goal.returns
returns c = coherent_by
