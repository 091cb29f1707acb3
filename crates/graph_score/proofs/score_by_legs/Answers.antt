-- The score of a graph whose legs fit, by what comes of it.
use Rattle.std.proofs.{lemmas.Result.IfOk-weaker, Math.Nat.mul_assoc}
use Rattle.graph_score.proofs.Common.{◌≡◌, ◌≢◌, ℕ, ◌-◌, Option, Some, None, All, arith, sym, subst, refl, inl, inr, cases_lt, cases_eq, Leg, Query, NetworkModel, IsValid, count, arr_of, Tree}
use Rattle.graph_score.proofs.Common.{Done, kids_after, outcomes_of, PlanGraph, IsFitStart, unfold_plan, Interval, Failure, Outlook, Safe, Failing, IsFitLeg, legs_of, Fails, IsScored, IsUnsafe}
use Rattle.graph_score.proofs.Common.{IsScoreOf, span_of, IsOutlook, ride_by_rows, ◌+◌, ◌*◌, ◌^◌, ◌<◌, ◌≤◌, List, [], ◌∷◌, map, length, All-cons, All-nil, Outcome, to_of, outcomes, EachKid, Ride}
use Rattle.graph_score.proofs.{Common.{Stuck, Kids, Nil, Kid, height, height_of, IsSafe, AreSafe, spans_of}, GraphLegs.{rows_fit, start_fits}, Trees.{next_after, safe_never_fails, safe_ride}}
use Rattle.graph_score.proofs.Trees.{height_ridden, unfold-start, unfold-none, unfold-there}
use Rattle.plan_model.specs.{Bounds.nanos_per_second, Expected.{Below, Covers, Encloses, arrival}}
use Rattle.plan_model.proofs.Bounds.{row_is}
use Rattle.interval_fixed.proofs.{Sums.{mean_below, mean_covers}, Enclosed.mean_gap_within}
use Rattle.graph_score.proofs.score_by_legs.Goals as goal

-- ---- the bounds of a tree that is safe enclose its expected arrival, and are not farther apart than its rides are nested

pub exact_below : (a : ℕ) → Below (nanos_per_second * a) (Done a)
exact_below a h tall = omega (arith, mul_assoc 1000000000 a (10000 ^ h))

pub exact_covers : (a : ℕ) → Covers (nanos_per_second * a) (Done a)
exact_covers a h tall = omega (arith, mul_assoc 1000000000 a (10000 ^ h))

module _ (n : NetworkModel) (valid : IsValid n) (target : ℕ) (by : Option ℕ) where
  -- its bounds enclose it, and are not farther apart than its rides are nested
  abbrev IsSpanned : Tree → Type 0
  IsSpanned tree = Encloses (span_of n tree).lo (span_of n tree).hi tree × ((span_of n tree).hi - (span_of n tree).lo ≤ height tree)

  abbrev AreSpanned : List Outcome → Kids → ℕ → Type 0
  AreSpanned row kids most =
      EachKid Below row (map (λ s. s.lo) (spans_of n kids)) kids × EachKid Covers row (map (λ s. s.hi) (spans_of n kids)) kids
      × (length row ≡ length (spans_of n kids)) × All (λ s. s.hi - s.lo ≤ most) (spans_of n kids)

  by_children : (i j : ℕ) (kids : Kids) → j < count n → AreSpanned (outcomes n j) kids (height_of kids) → IsSpanned (Ride i j kids)
  by_children i j kids there (below, covers, same, gaps) = (
    (
      mean_below nanos_per_second arrival (outcomes n j) (map (λ s. s.lo) (spans_of n kids)) kids i j below,
      mean_covers nanos_per_second arrival (outcomes n j) (map (λ s. s.hi) (spans_of n kids)) kids i j covers,
    ),
    mean_gap_within (outcomes n j) (spans_of n kids) (height_of kids) (row_is n valid j there) same gaps,
  )

  mutual
    spanned : (tree : Tree) (p x : ℕ) → IsSafe n target by tree p x → IsSpanned tree
    spanned (Done a) p x safe = ((exact_below a, exact_covers a), omega arith)
    spanned (Ride i j kids) p x safe = by_children i j kids safe.1.exit (children_spanned kids (outcomes n j) (to_of n j) (arr_of n j) (height_of kids)
        (omega arith) safe.3)
    spanned (Stuck place moment) p x safe = absurd safe

    children_spanned : (kids : Kids) (row : List Outcome) (p scheduled most : ℕ) → height_of kids ≤ most → AreSafe n target by kids row p scheduled
        → AreSpanned row kids most
    children_spanned Nil [] p scheduled most low safe = (tt, tt, refl, All-nil (λ (s : Interval). s.hi - s.lo ≤ most))
    children_spanned (Kid w tree kids) (o ∷ row) p scheduled most low safe =
        let (within, gap) = spanned tree p (scheduled + o.delay) safe.1 in
        grind (arith, All-cons, spans_of, children_spanned kids row p scheduled most (omega (arith, low)) safe.2)
    children_spanned _ _ p scheduled most low safe = absurd safe

  pub ride_spanned : (i j : ℕ) (kids : Kids) → j < count n → AreSafe n target by kids (outcomes n j) (to_of n j) (arr_of n j) → IsSpanned (Ride i j kids)
  ride_spanned i j kids there safe = by_children i j kids there (children_spanned kids (outcomes n j) (to_of n j) (arr_of n j) (height_of kids) (omega arith) safe)

-- who may fail is not safe
pub failing_reported : (n : NetworkModel) (q : Query) (tree : Tree) (f : Failure) → IsOutlook n q (Failing f) tree → IsUnsafe n q tree f.place.0 f.moment.0
failing_reported n q tree f is = record { unsafe = λ safe. safe_never_fails n q tree safe f.place.0 f.moment.0 is.fails; first = is }

module _ (n : NetworkModel) (valid : IsValid n) (q : Query) (graph : PlanGraph) (fit : All (IsFitLeg n q) (legs_of graph)) where
  abbrev Never : Tree → Type 0
  Never tree = (p x : ℕ) → Fails q tree p x → ⊥

  done_scored : q.source.0 ≡ q.target.0 → Never (Done q.start.0) → IsScored n q (Done q.start.0) (span_of n (Done q.start.0))
  done_scored there never = grind (arith, cases_lt, exact_below, exact_covers)

  ride_scored : (leg : Leg) → IsFitStart n q leg → Never (ride_by_rows n q graph.tables (count n - 1) leg)
      → IsScored n q (ride_by_rows n q graph.tables (count n - 1) leg) (span_of n (ride_by_rows n q graph.tables (count n - 1) leg))
  ride_scored leg start never =
      let rides = count n - 1 in
      let rows = rows_fit n q graph fit in
      let safe = safe_ride n q graph.tables rows rides leg start never in
      let kids = kids_after (next_after n q graph.tables rows rides leg) (arr_of n leg.exit.0) (outcomes_of n leg) in
      let (within, near) = ride_spanned n valid q.target.0 (Some q.deadline.0) leg.enter.0 leg.exit.0 kids start.is_leg.exit safe.3 in
      record {
        safe = safe;
        means = refl;
        encloses = within;
        gap = omega (arith, near, height_ridden n q graph.tables rows rides leg, start.is_leg.exit);
      }

  as_reported : (tree : Tree) → (Never tree → IsScored n q tree (span_of n tree)) → unfold_plan graph n q ≡ tree → (span : Interval)
      → IsOutlook n q (Safe span) (unfold_plan graph n q) → IsScored n q (unfold_plan graph n q) span
  as_reported tree scored is span reported = grind arith

  -- who cannot fail is safe, and the bounds enclose
  pub safe_reported : (span : Interval) → IsOutlook n q (Safe span) (unfold_plan graph n q) → IsScored n q (unfold_plan graph n q) span
  safe_reported span reported = elim (cases_eq q.source.0 q.target.0) [
    | inl there ↦ as_reported (Done q.start.0) (done_scored there) (unfold-there n q graph there) span reported
    | inr away ↦ by_start away graph.start refl
  ]
    where
      by_start : q.source.0 ≢ q.target.0 → (start : Option Leg) → graph.start ≡ start → IsScored n q (unfold_plan graph n q) span
      by_start away None is = absurd (reported.0 q.source.0 q.start.0 (subst (λ t. Fails q t q.source.0 q.start.0) (sym (unfold-none n q graph away is)) (refl, refl)))
      by_start away (Some leg) is = as_reported (ride_by_rows n q graph.tables (count n - 1) leg) (ride_scored leg (start_fits n q graph leg fit is)) (unfold-start n q graph leg away is) span reported

  pub score_reported : (outlook : Outlook) → IsOutlook n q outlook (unfold_plan graph n q) → IsScoreOf n q (unfold_plan graph n q) outlook
  score_reported outlook is = grind (arith, safe_reported, failing_reported)

pub returns : goal.returns
returns c =
    IfOk-weaker c.outlook_by_legs.result _ _
    (score_reported c.args.network.now c.count-are_numbered.ensures.valid c.args.query.now c.args.rising.now.graph.now c.requires.fit) c.outlook_by_legs.ensures
