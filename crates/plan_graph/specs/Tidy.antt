-- Which graphs by place fit, and which are tidy.
use Rattle.std.specs.Prelude.{◌≡◌, ◌≢◌, ℕ, ◌<◌, ◌≤◌, [], length, Some, MatchOption, All, AllPairs, Contains}
use Rattle.plan_model.specs.{declared.model.{Leg.Leg, Outcome.Outcome, Query.Query}, Network.{NetworkModel, from_of, dep_of}, Tree.Tree, Ways.limit_of}
use Rattle.plan_model.specs.Unfold.{end_of, arrival_of, outcomes_of}
use Rattle.plan_graph.specs.{declared.{GraphRow.GraphRow, PlaceTable.PlaceTable, PlanGraph.PlanGraph}, Unfold.unfold_plan, Ready.{IsLegOf, Stands}}
use Rattle.plan_graph.specs.Ready.{IsFirstInTime}

-- a row of the table of a place: its leg can be reached from there, and it is by the leg's limit
pub record IsFitRow (network : NetworkModel) (place : ℕ) (row : GraphRow) : Type 0 where
  pub is_leg : IsLegOf network row.leg
  pub by : limit_of network place row.leg ≡ Some row.by.0

pub record IsFitTable (network : NetworkModel) (table : PlaceTable) : Type 0 where
  pub some : 1 ≤ length table.rows
  pub rows : All (IsFitRow network table.place.0) table.rows
  pub rising : AllPairs (λ a b. a.by.0 < b.by.0) table.rows

-- the start leg leaves the source at the start or later
pub record IsFitStart (network : NetworkModel) (query : Query) (leg : Leg) : Type 0 where
  pub differ : query.source.0 ≢ query.target.0
  pub is_leg : IsLegOf network leg
  pub leaves : from_of network leg.enter.0 ≡ query.source.0
  pub in_time : query.start.0 ≤ dep_of network leg.enter.0

-- the graph speaks of this network and query
pub record IsFit (network : NetworkModel) (query : Query) (graph : PlanGraph) : Type 0 where
  pub starts : MatchOption graph.start ((query.source.0 ≡ query.target.0) × (graph.tables ≡ [])) (IsFitStart network query)
  pub tables : All (IsFitTable network) graph.tables
  pub rising : AllPairs (λ a b. a.place.0 < b.place.0) graph.tables

-- after a ride of the tree that ends at the place, which is not the target, an outcome picks the row
abbrev pub IsPickedIn : NetworkModel → ℕ → Tree → PlaceTable → GraphRow → Type 0
IsPickedIn network target tree table row =
    (table.place.0 ≢ target)
    × ((leg : Leg) × Stands leg tree × (end_of network leg ≡ table.place.0)
    × ((o : Outcome) × Contains (outcomes_of network leg) o × IsFirstInTime table.rows (arrival_of network leg o.delay) row))

-- the graph fits, and each row is picked somewhere in the unfolding
pub record IsTidy (network : NetworkModel) (query : Query) (graph : PlanGraph) : Type 0 where
  pub fit : IsFit network query graph
  pub picked : All (λ table. All (IsPickedIn network query.target.0 (unfold_plan graph network query) table) table.rows) graph.tables
