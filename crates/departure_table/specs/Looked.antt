-- The rows that are looked up one behind the other.
use Rattle.std.specs.{Prelude.{◌≡◌, ℕ, ◌+◌, ◌-◌, ◌<◌, ◌≤◌, ◌⊎◌, List, [], ◌∷◌, Option, None, Some, length}, Option.option_map}
use Rattle.plan_model.specs.{declared.model.{ConnectionId.ConnectionId, Leg.Leg, PlaceId.PlaceId, Query.Query}, Network.{NetworkModel, connection}}
use Rattle.plan_model.specs.{Order.IsScanOrder, Gates.extended_by}
use Rattle.value_laws.specs.{declared.MeanSpan.MeanSpan, Means.mean_scoring}
use Rattle.meat_scan.specs.{Rules.FollowsRules, ScanResult.{ScanResult, choice_of}}
use Rattle.departure_table.specs.declared.DepartureRow.{DepartureRow}

-- the row of a leg with its value, by its departure
abbrev pub row_of_choice : NetworkModel → MeanSpan × Leg → DepartureRow
row_of_choice network choice = record { by = (connection network choice.1.enter.0).dep; bounds = choice.0.0; leg = choice.1 }

-- the row for a traveller who sets out at a moment or later, by what a scan found
abbrev pub row_found : NetworkModel → Query → ScanResult MeanSpan → ℕ → Option DepartureRow
row_found network query found next = option_map (row_of_choice network) (choice_of found query.source.0 (next - 1))

-- from a next moment on up to a last one, each row is the one for the moment behind the row before, until there is none
abbrev pub AreLooked : (ℕ → Option DepartureRow) → (last next : ℕ) → List DepartureRow → Type 0
AreLooked look last next [] = (last < next) ⊎ (look next ≡ None)
AreLooked look last next (row ∷ rows) = (next ≤ last) × (look next ≡ Some row) × AreLooked look last (row.by.0 + 1) rows

-- the query with its source elsewhere
abbrev pub asked_at : Query → ℕ → Query
asked_at q place = record { source = record { 0 = place }; target = q.target; start = q.start; deadline = q.deadline }

-- with gates for xs and with gates for ys a scan of the connections in their order finds the same rows at gate k and at gate j
abbrev pub FindAlike : NetworkModel → (xs ys : List PlaceId) → Query → (x y k j : ℕ) → Type 0
FindAlike m xs ys q x y k j =
    (order : List ConnectionId) (a b : ScanResult MeanSpan) → IsScanOrder (extended_by m xs) order
    → FollowsRules mean_scoring (extended_by m xs) (asked_at q x) order a → FollowsRules mean_scoring (extended_by m ys) (asked_at q y) order b
    → (next : ℕ) → row_found (extended_by m xs) (asked_at q (length m.change + k)) a next ≡ row_found (extended_by m ys) (asked_at q (length m.change + j)) b next
