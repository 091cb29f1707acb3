-- The graph of the rides that were walked, with rows by limits, unfolds to the same tree and is pruned.
use Rattle.graph_prune.proofs.Common.{◌≡◌, ◌≢◌, ℕ, ◌<◌, List, map, Option, Some, Contains, All, AllPairs, arith, sym, subst, ◌∙◌, ap, slice_index_or, nat_tests, All-contains, All-map, Leg}
use Rattle.graph_prune.proofs.Common.{Outcome, Query, NetworkModel, limit_of, end_of, arrival_of, outcomes_of, unfolding_of, GraphRow, Ride, ExpandedGraph, pick_row, pick_after, Precedes}
use Rattle.graph_prune.proofs.Common.{IsReady, IsReadyRide, IsReadyRow, MayPrecede, IsBusy, IsPruned, IsByLimits, IsPickedAfter, IsFirstInTime, IsSafeForSome, Stands, Follows, row_by}
use Rattle.graph_prune.proofs.Common.{Contains-map, All-from_contains, AllPairs-map, first_pick, picked_there, one_found, ready, busy, picks_taken, ride_by_limits, ride_there, rows_after-own}
use Rattle.graph_prune.proofs.{Limits.{first_by_limits, limit_member, limits_rise, in_time_by}, Sources.{kept_after, start_can}}
use Rattle.std.proofs.lemmas.Grind.{common_steps}
use Rattle.plan_model.specs.{Network.IsValid, Tree.Tree}
use Rattle.plan_graph.specs.{Unfold.unfold_expanded, Walked.{IsWalked, HasRideOf}}
use Rattle.plan_graph.proofs.Together.{IsSameNext, unfold_from-together}

module _ (n : NetworkModel) (valid : IsValid n) (q : Query) (source : ExpandedGraph) (source_ready : IsReady n q source) (start : Leg) (starts : source.start ≡ Some start) (rides : List Ride)
    (walked : IsWalked n q (pick_after source.rides) start rides) where
  abbrev target : ℕ
  target = q.target.0

  abbrev choice : Leg → ℕ → Option Leg
  choice = pick_after source.rides

  abbrev between : ExpandedGraph
  between = record { start = Some start; rides = rides }

  abbrev pruned_rides : List Ride
  pruned_rides = map (ride_by_limits n) rides

  abbrev graph : ExpandedGraph
  graph = record { start = Some start; rides = pruned_rides }

  starts_as : unfold_expanded source n q ≡ unfolding_of n q choice (Some start)
  starts_as = ap (λ (s : Option Leg). unfolding_of n q choice s) starts

  pub between_ready : IsReady n q between
  between_ready =
      let can = start_can n q source source_ready start starts in
      ready n valid q choice start rides walked can.0 can.1 (subst (λ (tree : Tree). IsSafeForSome n q tree) starts_as source_ready.safe) (λ r there. kept_after n q source source_ready r.leg)

  between_busy : IsBusy n q between
  between_busy = busy n valid q choice start rides walked

  rising : AllPairs (λ a b. Precedes a.leg b.leg) pruned_rides
  rising = AllPairs-map (ride_by_limits n) (λ a b. Precedes a.leg b.leg) rides walked.rising

  module _ (r : Ride) (has : Contains rides r) where
    abbrev place : ℕ
    place = end_of n r.leg

    abbrev own : Ride
    own = ride_by_limits n r

    its : IsReadyRide n target r
    its = All-contains (IsReadyRide n target) rides r between_ready.rides has

    -- the row by its limit is the first, where the row was
    first_limit : place ≢ target → (o : Outcome) → Contains (outcomes_of n r.leg) o → (next : Leg)
        → pick_row r.after (arrival_of n r.leg o.delay) ≡ Some next → (limit : ℕ) → limit_of n place next ≡ Some limit
        → IsFirstInTime own.after (arrival_of n r.leg o.delay) (row_by limit next)
    first_limit away o outcome next is limit its_limit =
        first_by_limits n place r.after _ (arrival_of n r.leg o.delay) next limit its.rows tt (sym (its.picks away o outcome) ∙ is) its_limit

    limit_there : (x : ℕ) (next : Leg) → pick_row r.after x ≡ Some next → (limit : ℕ) × (limit_of n place next ≡ Some limit)
    limit_there x next is =
        let found = picked_there r.after x next is in
        let good = All-contains (IsReadyRow n place) r.after found.0 its.rows found.1 in
        (good.limit, ap (limit_of n place) (sym found.2) ∙ good.is_limit)

    -- after each outcome the same leg is picked
    pub picks_same : place ≢ target → (o : Outcome) → Contains (outcomes_of n r.leg) o → (next : Leg)
        → pick_row r.after (arrival_of n r.leg o.delay) ≡ Some next → pick_row own.after (arrival_of n r.leg o.delay) ≡ Some next
    picks_same away o outcome next is =
        let limit = limit_there (arrival_of n r.leg o.delay) next is in
        first_pick own.after (arrival_of n r.leg o.delay) (row_by limit.0 next) (first_limit away o outcome next is limit.0 limit.1)

    by_limit : IsByLimits n own
    by_limit = All-from_contains (λ row. limit_of n place row.leg ≡ Some row.by.0) own.after (λ y there.
        let m = limit_member n place r.after _ y its.rows there in
        subst (λ (w : GraphRow). limit_of n place w.leg ≡ Some w.by.0) (sym m.is) m.is_limit)

    own_row : (y : GraphRow) → Contains own.after y → IsReadyRow n place y
    own_row y there =
        let m = limit_member n place r.after _ y its.rows there in
        grind (arith, All-contains)

    -- rows by limits are in an order that is allowed, where their moments rise
    may_precede : (y z : GraphRow) → limit_of n place y.leg ≡ Some y.by.0 → limit_of n place z.leg ≡ Some z.by.0 → y.by.0 < z.by.0 → MayPrecede n place y z
    may_precede y z here other less = grind (arith, common_steps, nat_tests)

    pub ready_own : IsReadyRide n target own
    ready_own = record {
      is_leg = its.is_leg;
      rows = All-from_contains (IsReadyRow n place) own.after own_row;
      rising = λ i j d below within.
          may_precede (slice_index_or own.after i d) (slice_index_or own.after j d) (by_limit i d (omega (arith, below, within))) (by_limit j d within)
          (limits_rise n place r.after its.rising its.rows _ i j d below within);
      picks = λ away o outcome. in_time_by n place own.after (arrival_of n r.leg o.delay) by_limit;
    }

    -- each row is picked
    pub picked_own : (y : GraphRow) → Contains own.after y → IsPickedAfter n target own y
    picked_own y there =
        let m = limit_member n place r.after _ y its.rows there in
        let idle = All-contains (IsPickedAfter n target r) r.after m.row (All-contains (λ s. All (IsPickedAfter n target s) s.after) rides r between_busy.picked has) m.has in
        let o = idle.1.0 in
        let x = arrival_of n r.leg o.delay in (
          idle.0,
          (
            o,
            idle.1.1,
            subst (λ (w : GraphRow). IsFirstInTime own.after x w) (sym m.is) (first_limit idle.0 o idle.1.1 m.row.leg (first_pick r.after x m.row idle.1.2) m.limit m.is_limit),
          ),
        )

  -- what holds of each ride with its rows by limits holds of all
  all_own : (P : Ride → Type 0) → ((r : Ride) → Contains rides r → P (ride_by_limits n r)) → All P pruned_rides
  all_own P each = All-map P (ride_by_limits n) rides (All-from_contains (λ r. P (ride_by_limits n r)) rides each)

  -- after a ride both graphs pick one leg, of which there is a ride
  picks_both : (r : Ride) → Contains rides r → end_of n r.leg ≢ target → (o : Outcome) → Contains (outcomes_of n r.leg) o
      → IsSameNext (pick_after pruned_rides) (pick_after rides) (HasRideOf rides) r.leg (arrival_of n r.leg o.delay)
  picks_both r there away o outcome =
      let x = arrival_of n r.leg o.delay in
      let t = walked.taken r there away o outcome in
      let picks = picks_taken n valid q choice start rides walked r there away o outcome in
      let row = picked_there r.after x t.next picks in
      record {
        next = t.next;
        is_chosen = ap (λ (list : List GraphRow). pick_row list x) (rows_after-own pruned_rides rising (ride_by_limits n r) (Contains-map (ride_by_limits n) rides r there))
            ∙ picks_same r there away o outcome t.next picks;
        is_other = ap (λ (list : List GraphRow). pick_row list x) (rows_after-own rides walked.rising r there) ∙ picks;
        holds = subst (HasRideOf rides) row.2 (walked.closed r there row.0 row.1);
      }

  pub same_between : unfold_expanded graph n q ≡ unfold_expanded between n q
  same_between = unfold_from-together n target (pick_after pruned_rides) (pick_after rides) (HasRideOf rides)
      (λ leg ride. subst (λ (l : Leg). end_of n l ≢ target → (o : Outcome) → Contains (outcomes_of n l) o
      → IsSameNext (pick_after pruned_rides) (pick_after rides) (HasRideOf rides) l (arrival_of n l o.delay)) ride.2 (picks_both ride.0 ride.1))
      start walked.begins q.source.0 q.start.0

  pub unfolds : unfold_expanded graph n q ≡ unfold_expanded source n q
  unfolds = same_between ∙ walked.unfolds ∙ sym starts_as

  pub pruned : IsPruned n q graph
  pruned = record {
    ready = record {
      safe = subst (λ (tree : Tree). IsSafeForSome n q tree) (sym same_between) between_ready.safe;
      starts = start_can n q source source_ready start starts;
      rising = rising;
      rides = all_own (IsReadyRide n target) ready_own;
    };
    by = all_own (IsByLimits n) by_limit;
    busy = record {
      picked = all_own (λ r. All (IsPickedAfter n target r) r.after) (λ r has. All-from_contains (IsPickedAfter n target (ride_by_limits n r)) (ride_by_limits n r).after (picked_own r has));
      stands = all_own (λ r. Stands r.leg (unfold_expanded graph n q))
          (λ r has. subst (λ (tree : Tree). Stands r.leg tree) (sym same_between)
          (All-contains (λ s. Stands s.leg (unfold_expanded between n q)) rides r between_busy.stands has));
    };
  }

  -- after each outcome of a ride its rows pick the leg that is chosen at its end
  abbrev FollowsAfter : (ℕ → ℕ → Option Leg) → Ride → Type 0
  FollowsAfter at r = end_of n r.leg ≢ target → (o : Outcome) → Contains (outcomes_of n r.leg) o → (next : Leg)
      × (pick_row r.after (arrival_of n r.leg o.delay) ≡ Some next) × (at (end_of n r.leg) (arrival_of n r.leg o.delay) ≡ Some next)

  follows_own : (at : ℕ → ℕ → Option Leg) → Follows n target at source → (r : Ride) → Contains rides r → FollowsAfter at (ride_by_limits n r)
  follows_own at follows r there away o outcome =
      let x = arrival_of n r.leg o.delay in
      let t = walked.taken r there away o outcome in
      let s = ride_there source.rides r.leg x t.next t.is_chosen in
      let before = subst (λ (l : Leg). FollowsAfter at (record { leg = l; after = s.found.after })) s.same_leg (follows s.found s.has) in
      let f = before away o outcome in
      let same : f.0 ≡ t.next = one_found (pick_row s.found.after x) f.0 t.next f.1 (ap (λ (list : List GraphRow). pick_row list x) (sym s.same_rows) ∙ t.is_chosen) in
      (t.next, picks_same r there away o outcome t.next (picks_taken n valid q choice start rides walked r there away o outcome), f.2 ∙ ap (λ (l : Leg). Some l) same)

  pub follows_on : (at : ℕ → ℕ → Option Leg) → Follows n target at source → Follows n target at graph
  follows_on at follows s = All-contains (FollowsAfter at) pruned_rides s (all_own (FollowsAfter at) (follows_own at follows))
