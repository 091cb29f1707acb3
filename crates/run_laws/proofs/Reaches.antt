-- From where one can reach a target follows from the problem, and agrees with the latest moment and the departures of each place.
use Rattle.std.proofs.Common.{rules, slice_index_or}
use Rattle.run_laws.proofs.Common.{◌≡◌, ◌≢◌, ℕ, ◌+◌, ◌<◌, ◌≤◌, List, [], ◌∷◌, length, All, MatchOption, Option, Some, None, sym, subst, refl, ap, ◌∙◌, inl, inr, arith, cases_eq, cases_lt}
use Rattle.run_laws.proofs.Common.{cases_order, Moment, Query, NetworkModel, mean_scoring, Tree, one_found, Problem, Findings, query_until, IsOneAnswer, EndsByLatest, HasSafeFor, IsScanOrder}
use Rattle.run_laws.proofs.{Common.{ConnectionId, reaches_from_safe}, Departures.found_at, Departing.later_is_now, OneOrder.one_order}
use Rattle.run_laws.specs.Reaches.{KeepsRow}
use Rattle.plan_model.specs.{declared.model.PlaceId.PlaceId, Gates.{FitGates, extended_by}}
use Rattle.plan_model.proofs.Laws.{safe_from_reaches}
unfoldable use Rattle.plan_model.specs.Network.{connection}
use Rattle.meat_scan.specs.Rules.{FollowsRules}
use Rattle.departure_table.specs.{declared.{DepartureRow.DepartureRow, reach_rows.ReachRow.ReachRow}, Departures.{SafeFrom, IsNoneSafeFrom, IsGreatestMoment}, Looked.{asked_at, row_found}}
use Rattle.departure_table.specs.Reach.{IsReach, IsReachRow, IsFoundAtGate, BeginsWithBounds, places_of, row_of_place}
use Rattle.departure_table.proofs.{EachRow.{of_place, none_of_place, same_rows, each_row}, ReachGrowth.count_up_to, SameGates.first_departure}
use Rattle.journey_answers.specs.{Departures.{SafeOf, AreByRules, added_query}, Reach.{AreReached, AnswersReach}}

-- there is one greatest moment
one_greatest : (Safe : ℕ → Tree → Type 0) (first : ℕ) (a b : Moment) → IsGreatestMoment Safe first (Some a) → IsGreatestMoment Safe first (Some b) → a ≡ b
one_greatest Safe first a b is other = grind (arith, cases_order)

module _ (m : NetworkModel) (q : Query) where
  -- from the place of a row something is safe
  has_safe : (p : ℕ) (row : ReachRow) → row.place.0 ≡ p → IsReachRow m q q.start.0 row → (tree : Tree) × SafeFrom m p q q.start.0 tree
  has_safe p row here is = grind arith

  module _ (xs ys : List ReachRow) (a : AreReached m q xs) (b : AreReached m q ys) where
    one_row : (p : ℕ) (x y : ReachRow) → row_of_place p xs ≡ Some x → row_of_place p ys ≡ Some y → IsReachRow m q q.start.0 x → IsReachRow m q q.start.0 y → x ≡ y
    one_row p x y at there is also =
        let n = extended_by m (places_of m) in
        let f = a.by_rules in
        let g = b.by_rules in
        let here = of_place (IsFoundAtGate n m q f.found) p xs f.looked x at in
        let here_too = of_place (IsFoundAtGate n m q g.found) p ys g.looked y there in
        let place : x.place.0 ≡ y.place.0 = here.0 ∙ sym here_too.0 in
        let same = found_at n (added_query m q) f.found g.found f.ruled g.ruled (length m.change + x.place.0) q.start.0 in
        let moved = ap (λ (k : ℕ). row_found n (asked_at q (length m.change + k)) g.found q.start.0) place in
        let best = one_found (row_found n (asked_at q (length m.change + x.place.0)) f.found q.start.0) here.1.0 here_too.1.0 here.1.1 (same ∙ moved ∙ here_too.1.1) in
        let bounds = here.1.2 ∙ ap (λ (d : DepartureRow). d.bounds) best ∙ sym here_too.1.2 in
        let latest = one_greatest (SafeFrom m x.place.0 q) q.start.0 x.latest y.latest is.latest
        (subst (λ (k : ℕ). IsGreatestMoment (SafeFrom m k q) q.start.0 (Some y.latest)) (sym place) also.latest) in
        λ i. record { place = record { 0 = place i }; latest = latest i; bounds = bounds i }

    answered : (p : ℕ) (x y : Option ReachRow) → row_of_place p xs ≡ x → row_of_place p ys ≡ y → MatchOption x (IsNoneSafeFrom (SafeFrom m p q) q.start.0) (IsReachRow m q q.start.0)
        → MatchOption y (IsNoneSafeFrom (SafeFrom m p q) q.start.0) (IsReachRow m q q.start.0) → x ≡ y
    answered p None None at there none also = refl
    answered p None (Some y) at there none also =
        let safe = has_safe p y (of_place (IsReachRow m q q.start.0) p ys (each_row m q q.start.0 ys b.reach) y there).0 also in
        absurd (none safe.0 safe.1)
    answered p (Some x) None at there is none =
        let safe = has_safe p x (of_place (IsReachRow m q q.start.0) p xs (each_row m q q.start.0 xs a.reach) x at).0 is in
        absurd (none safe.0 safe.1)
    answered p (Some x) (Some y) at there is also = ap (λ (r : ReachRow). Some r) (one_row p x y at there is also)

    one_of_place : (p : ℕ) → row_of_place p xs ≡ row_of_place p ys
    one_of_place p = elim (cases_lt p (length m.change)) [
      | inl inside ↦ elim (cases_eq p q.target.0) [
        | inl target ↦ grind (arith, none_of_place)
        | inr away ↦ answered p (row_of_place p xs) (row_of_place p ys) refl refl (a.reach.answers p inside away) (b.reach.answers p inside away)
      ]
      | inr past ↦ grind (arith, none_of_place)
    ]

    -- what the rules give is one list
    pub one_reach : xs ≡ ys
    one_reach = same_rows xs ys a.reach.rising b.reach.rising one_of_place

pub one_reach_answer : (p : Problem) (q : Query) (found others : Findings) (text other : List ℕ) → AnswersReach p q found text → AnswersReach p q others other → IsOneAnswer found others text other
one_reach_answer p q found others text other (rows, is, reached, text_is) (more, is_other, reached_other, text_other) = grind (arith, one_reach p.timetable.network q rows more reached reached_other)

-- over a problem with the same timetable and the same target
pub over_timetable : (p other : Problem) (start until : ℕ) (rows : List ReachRow) → p.timetable ≡ other.timetable → p.target ≡ other.target
    → AreReached p.timetable.network (query_until p start until) rows → AreReached other.timetable.network (asked_at (query_until other start until) p.source.0) rows
over_timetable p other start until rows timetable target reached = grind arith

-- the connections are scanned in one order, whatever gates there are
same_order : (m : NetworkModel) (xs ys : List PlaceId) (ids : List ConnectionId) → IsScanOrder (extended_by m xs) ids → IsScanOrder (extended_by m ys) ids
unfolding connection
same_order m xs ys ids order = record { permutes = order.permutes; rising = order.rising }

module _ (p : Problem) (start until x : ℕ) (rows : List ReachRow) (reached : AreReached p.timetable.network (asked_at (query_until p start until) x) rows) (away : p.source.0 ≢ p.target.0) where
  abbrev q : Query
  q = query_until p start until

  abbrev m : NetworkModel
  m = p.timetable.network

  answer : MatchOption (row_of_place p.source.0 rows) (IsNoneSafeFrom (SafeOf p q) start) (IsReachRow m (asked_at q x) start)
  answer = reached.reach.answers p.source.0 p.source_in away

  there : (row : ReachRow) → row_of_place p.source.0 rows ≡ Some row → row.place.0 ≡ p.source.0
  there row at = (of_place (IsReachRow m (asked_at q x) start) p.source.0 rows (each_row m (asked_at q x) start rows reached.reach) row at).0

  -- how `latest` ends, and what it finds
  abbrev EndsLatest : ℕ → Option Moment → Type 0
  EndsLatest status latest = EndsByLatest p q status × (status ≡ 0 → (moment : Moment) × (latest ≡ Some moment) × IsGreatestMoment (SafeOf p q) start (Some moment))

  by_row : (o : Option ReachRow) → row_of_place p.source.0 rows ≡ o → MatchOption o (IsNoneSafeFrom (SafeOf p q) start) (IsReachRow m (asked_at q x) start)
      → (status : ℕ) (latest : Option Moment) → EndsLatest status latest → MatchOption o (status ≡ 1) (λ row. (status ≡ 0) × (latest ≡ Some row.latest))
  by_row None at none status latest (inl (is, later), found) = let safe = later_is_now p q later in absurd (none safe.0 safe.1)
  by_row None at none status latest (inr (is, never), found) = is
  by_row (Some row) at is status latest h = grind (arith, there, one_greatest)

  pub latest_by_row : (status : ℕ) (latest : Option Moment) → EndsLatest status latest → MatchOption (row_of_place p.source.0 rows) (status ≡ 1) (λ row. (status ≡ 0) × (latest ≡ Some row.latest))
  latest_by_row status latest ends = by_row (row_of_place p.source.0 rows) refl answer status latest ends

  -- the first of the departures
  module _ (last : ℕ) (departures : List DepartureRow) (soon : start ≤ last) (ruled : AreByRules p q last departures) where
    fits_one : FitGates m (p.source ∷ [])
    fits_one = grind (arith, count_up_to)

    begins : (row : ReachRow) → row_of_place p.source.0 rows ≡ Some row → BeginsWithBounds row departures
    begins row at =
        let f = reached.by_rules in
        let A = extended_by m (places_of m) in
        let B = extended_by m (p.source ∷ []) in
        let order = same_order m (p.source ∷ []) (places_of m) ruled.ruled.order ruled.ruled.is_order in
        let same = one_order A f.ruled.order ruled.ruled.order f.ruled.is_order order in
        let rules = subst (λ (ids : List ConnectionId). FollowsRules mean_scoring A (asked_at q (length m.change)) ids f.found) same f.ruled.rules in
        let at_gate = of_place (IsFoundAtGate A m q f.found) p.source.0 rows f.looked row at in
        first_departure m p.timetable.valid q p.source (length m.change) (length m.change) last f.fit fits_one p.target_in soon ruled.ruled.order f.found ruled.found row departures order rules ruled.ruled.rules
        at_gate.0 at_gate.1 ruled.looked

    begins_by : (o : Option ReachRow) → row_of_place p.source.0 rows ≡ o → MatchOption o (IsNoneSafeFrom (SafeOf p q) start) (IsReachRow m (asked_at q x) start) → HasSafeFor p q
        → (row : ReachRow) × (row_of_place p.source.0 rows ≡ Some row) × BeginsWithBounds row departures
    begins_by o at none safe = grind (arith, begins)

    pub begins_the_departures : HasSafeFor p q → (row : ReachRow) × (row_of_place p.source.0 rows ≡ Some row) × BeginsWithBounds row departures
    begins_the_departures safe = begins_by (row_of_place p.source.0 rows) refl answer safe

-- by a later deadline
module _ (m : NetworkModel) (target : PlaceId) (x y : PlaceId) (start : Moment) (sooner later : Moment) (less : sooner.0 ≤ later.0) (rows more : List ReachRow) where
  abbrev by_sooner : Query
  by_sooner = record { source = x; target = target; start = start; deadline = sooner }

  abbrev by_later : Query
  by_later = record { source = y; target = target; start = start; deadline = later }

  still_safe : (place moment : ℕ) (tree : Tree) → SafeFrom m place by_sooner moment tree → SafeFrom m place by_later moment tree
  still_safe place moment tree safe = grind (arith, reaches_from_safe, safe_from_reaches)

  module _ (reached : IsReach m by_sooner start.0 rows) (others : IsReach m by_later start.0 more) where
    no_earlier : (row : ReachRow) → row.place.0 < length m.change → IsReachRow m by_sooner start.0 row → (o : Option ReachRow) → row_of_place row.place.0 more ≡ o
        → MatchOption o (IsNoneSafeFrom (SafeFrom m row.place.0 by_later) start.0) (IsReachRow m by_later start.0) → KeepsRow more row
    no_earlier row inside is None at none =
        grind (arith, has_safe m by_sooner row.place.0 row refl is, still_safe row.place.0 start.0 (has_safe m by_sooner row.place.0 row refl is).0 (has_safe m by_sooner row.place.0 row refl is).1)
    no_earlier row inside is (Some other) at also =
        let here = (of_place (IsReachRow m by_later start.0) row.place.0 more (each_row m by_later start.0 more others) other at).0 in
        let greatest = subst (λ (k : ℕ). IsGreatestMoment (SafeFrom m k by_later) start.0 (Some other.latest)) here also.latest in
        let safe = still_safe row.place.0 row.latest.0 is.latest.1.0 is.latest.1.1 in grind (arith, cases_lt)

    pub keeps_rows : All (KeepsRow more) rows
    keeps_rows k d within =
        let at = reached.places k d within in
        let row = slice_index_or rows k d in
        no_earlier row at.0 (each_row m by_sooner start.0 rows reached k d within) (row_of_place row.place.0 more) refl (others.answers row.place.0 at.0 at.1)
