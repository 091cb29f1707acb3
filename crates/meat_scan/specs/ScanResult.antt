-- What a scan found, and the trees that it chooses.
use Rattle.std.specs.{Prelude.{◌≡◌, ℕ, ◌<◌, List, [], Option, Some, None, MatchOption, slice_index_or, map}, Option.option_map}
use Rattle.plan_model.specs.{declared.model.{Leg.Leg, Query.Query}, Network.NetworkModel, Tree.Tree, Unfold.{unfold_from, unfolding_of, by_place}}
use Rattle.stop_profile.specs.{declared.Row.Row, Inserts.row_in_time}
use Rattle.meat_scan.specs.ScanTables.{ShownTables}

-- the start leg with its value, the rows of each place, and the target of the scan
pub record ScanResult (V : Type 0) : Type 0 where
  pub start : Option (V × Leg)
  pub rows : List (List (Row V))
  pub target : ℕ

-- what the tables hold after a scan
abbrev pub found_in : {V : Type 0} → ShownTables V → Option (V × Leg) → ℕ → ScanResult V
found_in tables start target = record { start = start; rows = map (λ profile. profile.rows) tables.profiles; target = target }

-- the rows of a place
abbrev pub found_rows : {V : Type 0} → ScanResult V → ℕ → List (Row V)
found_rows found place = slice_index_or found.rows place []

-- what is chosen after an arrival at a place
abbrev pub choice_of : {V : Type 0} → ScanResult V → ℕ → ℕ → Option (V × Leg)
choice_of found place arrival = option_map (λ row. (row.value, row.leg)) (row_in_time arrival (found_rows found place))

-- the choice after the latest arrivals at a place: after a later one there is none
abbrev pub IsLastChoice : {V : Type 0} → ScanResult V → ℕ → Option (V × Leg) → Type 0
IsLastChoice found place choice =
    MatchOption choice
    ((arrival : ℕ) → choice_of found place arrival ≡ None)
    (λ last. (by : ℕ) × (choice_of found place by ≡ Some last) × ((arrival : ℕ) → by < arrival → choice_of found place arrival ≡ None))

-- the leg that is chosen after an arrival at a place
abbrev pub leg_choice : {V : Type 0} → ScanResult V → ℕ → ℕ → Option Leg
leg_choice found place arrival = option_map (λ choice. choice.1) (choice_of found place arrival)

-- the tree that is chosen after an arrival at a place
abbrev pub chosen_at : {V : Type 0} → NetworkModel → Query → ScanResult V → ℕ → ℕ → Tree
chosen_at network query found place arrival =
    unfold_from network query.target.0 (by_place network (leg_choice found)) (leg_choice found place arrival) place arrival

-- the tree that is chosen by a start leg
abbrev pub chosen_by : {V : Type 0} → NetworkModel → Query → ScanResult V → Leg → Tree
chosen_by network query found leg = unfolding_of network query (by_place network (leg_choice found)) (Some leg)
