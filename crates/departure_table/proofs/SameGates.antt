-- A scan finds the same at the gates of one source, whatever other gates there are.
use Rattle.departure_table.proofs.Common.{◌≡◌, ℕ, zero, suc, ◌+◌, ◌<◌, ◌≤◌, ◌==◌, arith, inl, inr, Option, Some, List, [], ◌∷◌, length, All, refl, ap, sym, ◌∙◌, nat_tests, Query, PlaceId}
use Rattle.departure_table.proofs.{Common.{NetworkModel, IsValid, MeanSpan, way_of, extended_by, source_at, FitGates, row_found, DepartureRow, AreLooked}, ReachGrowth.{count_up_to, place_at}}
use Rattle.departure_table.specs.{Looked.asked_at, Reach.{BeginsWithBounds, FirstAlike, places_of}}
unfoldable use Rattle.plan_model.specs.Network.{connection, row_of}
use Rattle.plan_model.specs.{Network.count, Order.IsScanOrder, declared.model.{ConnectionId.ConnectionId, Outcome.Outcome}}
use Rattle.plan_model.proofs.{ScanOrders.has_each_id, GateWays.{same_ways, from_the_gate}}
use Rattle.stop_profile.specs.declared.Row.{Row}
use Rattle.trip_exit.specs.Offers.{Exit}
use Rattle.value_laws.specs.{ScoreLaws.Scoring, Means.mean_scoring}
use Rattle.meat_scan.specs.{Rules.{Kept, kept_after, kept_next, FollowsRules}, ScanResult.ScanResult, Step.{exits_with, values_after}}

-- values after outcomes are looked up at one place
values_alike : {V : Type 0} (arrived : ℕ → V) (target deadline : ℕ) (a b : ℕ → List (Row V)) (place moment : ℕ) (row : List Outcome) → a place ≡ b place
    → values_after arrived target deadline a place moment row ≡ values_after arrived target deadline b place moment row
values_alike arrived target deadline a b place moment [] same = refl
values_alike {V} arrived target deadline a b place moment (o ∷ row) same = grind (arith, values_alike arrived target deadline a b place moment row same)

-- of the exits only that of one run counts
exits_alike : {V : Type 0} (s : Scoring V) (id : ConnectionId) (run other : ℕ) (o : Option V) (a b : ℕ → Option (Exit V)) → a other ≡ b other → exits_with s id run o a other ≡ exits_with s id run o b other
exits_alike s id run other o a b same = grind arith

module _ (m : NetworkModel) (v : IsValid m) (xs ys : List PlaceId) (there : All (λ source. source.0 < length m.change) xs) (there_too : All (λ source. source.0 < length m.change) ys)
    (few : length m.change + length xs < 4294967296) (few_too : length m.change + length ys < 4294967296) (q : Query) (x y : ℕ) where
  abbrev A : NetworkModel
  A = extended_by m xs

  abbrev B : NetworkModel
  B = extended_by m ys

  -- places of the two networks from which the same ways lead, and which both are the target or both not
  record AreAlike (a b : ℕ) : Type 0 where
    ways : (to : ℕ) → to < length m.change → way_of A a to ≡ way_of B b to
    targets : (a == q.target.0) ≡ (b == q.target.0)

  alike_places : (p : ℕ) → p < length m.change → AreAlike p p
  alike_places p inside = grind (arith, same_ways)

  alike_gates : (k j : ℕ) → k < length xs → j < length ys → source_at xs k ≡ source_at ys j → q.target.0 < length m.change → AreAlike (length m.change + k) (length m.change + j)
  alike_gates k j first second same inside = grind (arith, nat_tests, from_the_gate)

  module _ {V : Type 0} (s : Scoring V) where
    -- what is kept of the same connections in the two networks
    record IsKeptAlike (a b : Kept V) : Type 0 where
      exits : (run : ℕ) → a.exits run ≡ b.exits run
      rows : (p r : ℕ) → AreAlike p r → a.rows p ≡ b.rows r

    next_alike : (id : ℕ) (a b : Kept V) → id < count m → IsKeptAlike a b → IsKeptAlike (kept_next s A (asked_at q x) id a) (kept_next s B (asked_at q y) id b)
    unfolding connection row_of
    next_alike id a b inside alike = grind (arith, values_alike, alike_places, exits_alike)

    kept_alike : (ids : List ConnectionId) → All (λ id. id.0 < count m) ids → IsKeptAlike (kept_after s A (asked_at q x) ids) (kept_after s B (asked_at q y) ids)
    kept_alike [] inside = record { exits = λ run. refl; rows = λ p r same. refl }
    kept_alike (id ∷ ids) inside = next_alike id.0 (kept_after s A (asked_at q x) ids) (kept_after s B (asked_at q y) ids) (inside zero id (omega arith)) (kept_alike ids (λ k d within. inside (suc k) d (omega (arith, within))))

  -- so the rows that are found at gates of the same source are the same
  pub found_alike : (k j : ℕ) → k < length xs → j < length ys → source_at xs k ≡ source_at ys j → q.target.0 < length m.change → (order : List ConnectionId) → IsScanOrder A order → (a b : ScanResult MeanSpan)
      → FollowsRules mean_scoring A (asked_at q x) order a → FollowsRules mean_scoring B (asked_at q y) order b
      → (next : ℕ) → row_found A (asked_at q (length m.change + k)) a next ≡ row_found B (asked_at q (length m.change + j)) b next
  unfolding connection
  found_alike k j first second same inside order is_order a b rules others next =
      let each = has_each_id A order is_order in
      let kept = (kept_alike mean_scoring order each.within).rows (length m.change + k) (length m.change + j) (alike_gates k j first second same inside) in
      grind arith

-- the first row of the departures from a place has the bounds of its row of a reach
pub first_departure : (m : NetworkModel) → IsValid m → (q : Query) (place : PlaceId) (x y last : ℕ) → FitGates m (places_of m) → FitGates m (place ∷ []) → q.target.0 < length m.change → q.start.0 ≤ last → FirstAlike m q place x y last
first_departure m v q place x y last fit fit_too target soon order a b r rows is_order rules others here found looked =
    let inside : place.0 < length m.change = fit_too.there zero place (omega arith) in
    let many = count_up_to (length m.change) in
    let within : place.0 < length (places_of m) = omega (arith, many, inside) in
    let same : source_at (places_of m) place.0 ≡ place.0 = ap (λ (p : PlaceId). p.0) (place_at (length m.change) place.0 (record { 0 = 0 }) inside) in
    let alike = found_alike m v (places_of m) (place ∷ []) fit.there fit_too.there fit.few fit_too.few q x y place.0 0 within (omega arith) same target order is_order a b rules others q.start.0 in
    let A = extended_by m (places_of m) in
    let B = extended_by m (place ∷ []) in
    let none_more : length m.change + 0 ≡ length m.change = omega arith in
    let look : row_found A (asked_at q (length m.change + place.0)) a q.start.0 ≡ row_found B (asked_at q (length m.change)) b q.start.0 = grind arith in
    let one : row_found B (asked_at q (length m.change)) b q.start.0 ≡ Some found.0 = sym look ∙ ap (λ (p : ℕ). row_found A (asked_at q (length m.change + p)) a q.start.0) (sym here) ∙ found.1 in
    first_of rows one looked
  where
    first_of : (rows : List DepartureRow) → row_found (extended_by m (place ∷ [])) (asked_at q (length m.change)) b q.start.0 ≡ Some found.0
        → AreLooked (row_found (extended_by m (place ∷ [])) (asked_at q (length m.change)) b) last q.start.0 rows → BeginsWithBounds r rows
    first_of [] one (inl late) = absurd (omega (arith, late, soon))
    first_of [] one (inr none) = absurd (cc)
    first_of (row ∷ rows) one looked = let is = looked.1 in let best : found.0 ≡ row = cc in (row, rows, refl, found.2 ∙ ap (λ (d : DepartureRow). d.bounds) best)
