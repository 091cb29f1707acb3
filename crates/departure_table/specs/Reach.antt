-- What the reach of a target says.
use Rattle.std.specs.{Prelude.{◌≡◌, ◌≢◌, ℕ, ◌+◌, ◌<◌, ◌==◌, List, ◌∷◌, [], Option, Some, MatchOption, All, AllPairs, find, length, map}, List.range_with_len}
use Rattle.interval_fixed.specs.Interval.{Interval}
use Rattle.plan_model.specs.{declared.model.{PlaceId.PlaceId, Query.Query, ConnectionId.ConnectionId}, Network.NetworkModel, Order.IsScanOrder}
use Rattle.plan_model.specs.Gates.{extended_by}
use Rattle.departure_table.specs.{Departures.{SafeFrom, IsNoneSafeFrom, IsGreatestMoment, IsBestFrom}, declared.DepartureRow.DepartureRow}
use Rattle.departure_table.specs.{declared.reach_rows.ReachRow.ReachRow, Looked.{asked_at, row_found, AreLooked}}
use Rattle.value_laws.specs.{declared.MeanSpan.MeanSpan, Means.mean_scoring}
use Rattle.meat_scan.specs.{Rules.FollowsRules, ScanResult.ScanResult}

-- so many places, by rising number
abbrev pub places_up_to : ℕ → List PlaceId
places_up_to count = map (λ (k : ℕ). record { 0 = k }) (range_with_len 0 count)

-- the places of a network
abbrev pub places_of : NetworkModel → List PlaceId
places_of m = places_up_to (length m.change)

-- the bounds are those of a row of departures of which something holds
abbrev pub AreBoundsOf : (DepartureRow → Type 0) → Interval → Type 0
AreBoundsOf Is bounds = (best : DepartureRow) × Is best × (bounds ≡ best.bounds)

-- what the row says of its place: the latest moment from the start on at which one can set out there and be safe, and
-- the bounds of the best that is safe for who sets out there at the start
pub record IsReachRow (m : NetworkModel) (query : Query) (start : ℕ) (row : ReachRow) : Type 0 where
  pub latest : IsGreatestMoment (SafeFrom m row.place.0 query) start (Some row.latest)
  pub bounds : AreBoundsOf (IsBestFrom m (SafeFrom m row.place.0 query) start) row.bounds

-- the bounds of the row are those that a scan found at the gate of its place, for who sets out there at the start
abbrev pub IsFoundAtGate : (longer m : NetworkModel) → Query → ScanResult MeanSpan → ReachRow → Type 0
IsFoundAtGate longer m query found row =
    AreBoundsOf (λ best. row_found longer (asked_at query (length m.change + row.place.0)) found query.start.0 ≡ Some best) row.bounds

-- the first row of a place
abbrev pub row_of_place : ℕ → List ReachRow → Option ReachRow
row_of_place place rows = find (λ row. row.place.0 == place) rows

-- for each place but the target one row, by rising place; none exactly if nobody who sets out there at the start is safe
pub record IsReach (m : NetworkModel) (query : Query) (start : ℕ) (rows : List ReachRow) : Type 0 where
  pub answers : (place : ℕ) → place < length m.change → place ≢ query.target.0 →
      MatchOption (row_of_place place rows) (IsNoneSafeFrom (SafeFrom m place query) start) (IsReachRow m query start)
  pub places : All (λ row. (row.place.0 < length m.change) × (row.place.0 ≢ query.target.0)) rows
  pub rising : AllPairs (λ a b. a.place.0 < b.place.0) rows

-- the first of the departures has the bounds of the row
abbrev pub BeginsWithBounds : ReachRow → List DepartureRow → Type 0
BeginsWithBounds row departures = (first : DepartureRow) × (rest : List DepartureRow) × (departures ≡ first ∷ rest) × (row.bounds ≡ first.bounds)

-- scans of the network with a gate for each place and with one for a place alone: the row of the place in a reach has the bounds of
-- the first of its departures up to a last moment
abbrev pub FirstAlike : NetworkModel → Query → PlaceId → (x y last : ℕ) → Type 0
FirstAlike m q place x y last =
    (order : List ConnectionId) (a b : ScanResult MeanSpan) (row : ReachRow) (departures : List DepartureRow) → IsScanOrder (extended_by m (places_of m)) order
    → FollowsRules mean_scoring (extended_by m (places_of m)) (asked_at q x) order a → FollowsRules mean_scoring (extended_by m (place ∷ [])) (asked_at q y) order b
    → row.place.0 ≡ place.0 → IsFoundAtGate (extended_by m (places_of m)) m q a row
    → AreLooked (row_found (extended_by m (place ∷ [])) (asked_at q (length m.change)) b) last q.start.0 departures → BeginsWithBounds row departures
