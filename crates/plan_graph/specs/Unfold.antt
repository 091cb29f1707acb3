-- The rows of a graph, what they pick, and the tree that a graph fixes.
use Rattle.std.specs.Prelude.{◌≡◌, ℕ, ◌<◌, ◌≤◌, ◌⊎◌, List, [], ◌∷◌, length, Option, Some, None, All, AllPairs, Bool, nat_le, nat_lt, ◌==◌, ◌&&◌, ◌||◌}
use Rattle.std.specs.Prelude.{if◌then◌else◌}
use Rattle.plan_model.specs.{declared.model.{Leg.Leg, Query.Query}, Network.NetworkModel, Tree.Tree, Unfold.{unfolding_of, by_place}}
use Rattle.plan_graph.specs.declared.{GraphRow.GraphRow, Ride.Ride, PlaceTable.PlaceTable, PlanGraph.PlanGraph, ExpandedGraph.ExpandedGraph}

-- the leg of the first row that is not before an arrival
abbrev pub pick_row : List GraphRow → ℕ → Option Leg
pick_row [] arrival = None
pick_row (row ∷ rows) arrival = if nat_le arrival row.by.0 then Some row.leg else pick_row rows arrival

-- the ride is of this leg
abbrev pub is_ride_of : Leg → Ride → Bool
is_ride_of leg r = (r.leg.enter.0 == leg.enter.0) && (r.leg.exit.0 == leg.exit.0)

-- the rows after a ride; none if the leg has no ride
abbrev pub rows_after : List Ride → Leg → List GraphRow
rows_after [] leg = []
rows_after (r ∷ rides) leg = if is_ride_of leg r then r.after else rows_after rides leg

-- the table is of this place
abbrev pub is_table_of : ℕ → PlaceTable → Bool
is_table_of place table = table.place.0 == place

-- the rows of a place; none if it has no table
abbrev pub rows_of_place : List PlaceTable → ℕ → List GraphRow
rows_of_place [] place = []
rows_of_place (table ∷ tables) place = if is_table_of place table then table.rows else rows_of_place tables place

-- the leg after a ride that arrives at a moment
abbrev pub pick_after : List Ride → Leg → ℕ → Option Leg
pick_after rides leg arrival = pick_row (rows_after rides leg) arrival

-- the leg after an arrival at a place
abbrev pub pick_at : List PlaceTable → ℕ → ℕ → Option Leg
pick_at tables place arrival = pick_row (rows_of_place tables place) arrival

-- one leg comes before another: by entry, and then by exit
abbrev pub Precedes : Leg → Leg → Type 0
Precedes a b = (a.enter.0 < b.enter.0) ⊎ ((a.enter.0 ≡ b.enter.0) × (a.exit.0 < b.exit.0))

-- whether it does
abbrev pub leg_lt : Leg → Leg → Bool
leg_lt a b = nat_lt a.enter.0 b.enter.0 || ((a.enter.0 == b.enter.0) && nat_lt a.exit.0 b.exit.0)

-- the rides rise
abbrev pub HasRisingRides : List Ride → Type 0
HasRisingRides rides = AllPairs (λ a b. Precedes a.leg b.leg) rides

-- the places and the rows of each table rise, and no table is empty
pub record HasRisingTables (graph : PlanGraph) : Type 0 where
  pub places : AllPairs (λ a b. a.place.0 < b.place.0) graph.tables
  pub rows : All (λ table. AllPairs (λ a b. a.by.0 < b.by.0) table.rows) graph.tables
  pub some : All (λ table. 1 ≤ length table.rows) graph.tables

-- by the legs that the rows after each ride pick
abbrev pub unfold_expanded : ExpandedGraph → NetworkModel → Query → Tree
unfold_expanded graph network query = unfolding_of network query (pick_after graph.rides) graph.start

-- by the legs that the rows of each place pick
abbrev pub unfold_plan : PlanGraph → NetworkModel → Query → Tree
unfold_plan graph network query = unfolding_of network query (by_place network (pick_at graph.tables)) graph.start
