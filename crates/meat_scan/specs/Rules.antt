-- The rules of a scan, over all connections: which rows, exits and start leg they leave, and so which strategy.
use Rattle.std.specs.{Prelude.{◌≡◌, ℕ, List, [], ◌∷◌, Option, None, Some}, Option.option_map}
use Rattle.plan_model.specs.{declared.model.{ConnectionId.ConnectionId, Leg.Leg, Query.Query}, Network.NetworkModel, Order.IsScanOrder, Tree.Tree}
use Rattle.plan_model.specs.Unfold.{unfolding_of, by_place}
use Rattle.value_laws.specs.ScoreLaws.{Scoring}
use Rattle.stop_profile.specs.{declared.Row.Row, Inserts.{row_in_time, ShownProfile}}
use Rattle.trip_exit.specs.Offers.{Exit}
use Rattle.meat_scan.specs.{ScanTables.{rows_of_profile, exit_at}, Step.{rows_next, exits_next, start_next}, ScanResult.{ScanResult, found_rows}}

-- the rows of the places, the exits of the runs, and the start leg
pub record Kept (V : Type 0) : Type 0 where
  pub rows : ℕ → List (Row V)
  pub exits : ℕ → Option (Exit V)
  pub start : Option (V × Leg)

-- what the tables keep, with a start leg
abbrev pub kept_in : {V : Type 0} → List (ShownProfile V) → List (Option (Exit V)) → Option (V × Leg) → Kept V
kept_in profiles exits start = record { rows = rows_of_profile profiles; exits = exit_at exits; start = start }

-- what is kept with one connection more
abbrev pub kept_next : {V : Type 0} → Scoring V → NetworkModel → Query → ℕ → Kept V → Kept V
kept_next scoring network query id kept = record {
  rows = rows_next scoring network query id kept.rows kept.exits;
  exits = exits_next scoring network query id kept.rows kept.exits;
  start = start_next scoring network query id kept.rows kept.exits kept.start;
}

-- what is kept of the connections of a list, which are taken backwards
abbrev pub kept_after : {V : Type 0} → Scoring V → NetworkModel → Query → List ConnectionId → Kept V
kept_after scoring network query [] = record { rows = λ place. []; exits = λ run. None; start = None }
kept_after scoring network query (id ∷ later) =
    kept_next scoring network query id.0 (kept_after scoring network query later)

-- what was found is what the rules keep of all connections, in the scan order: so the better value is kept, on a tie the one
-- that the scan took earlier, and a connection is a row of each place from which a way leads to it, up to its limit there
pub record FollowsRules {V : Type 0} (scoring : Scoring V) (network : NetworkModel)
    (query : Query) (order : List ConnectionId) (found : ScanResult V) : Type 0 where
  pub rows : (place : ℕ) → found_rows found place ≡ (kept_after scoring network query order).rows place
  pub start : found.start ≡ (kept_after scoring network query order).start

-- at a place, the leg of the first row kept there that an arrival is in time for
abbrev pub kept_leg : {V : Type 0} → Kept V → ℕ → ℕ → Option Leg
kept_leg kept place arrival = option_map (λ row. row.leg) (row_in_time arrival (kept.rows place))

-- of the connections in their scan order the rules keep a start leg with this value, and rows by which it goes on as the strategy does
pub record IsByRules {V : Type 0} (scoring : Scoring V) (network : NetworkModel)
    (query : Query) (strategy : Tree) (value : V) : Type 0 where
  pub order : List ConnectionId
  pub is_order : IsScanOrder network order
  pub start : Leg
  pub begins : (kept_after scoring network query order).start ≡ Some (value, start)
  pub goes_on : strategy ≡ unfolding_of network query (by_place network (kept_leg (kept_after scoring network query order))) (Some start)
