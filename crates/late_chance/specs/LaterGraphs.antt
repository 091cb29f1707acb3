-- Graphs by place with all moments greater by a shift.
use Rattle.std.specs.Prelude.{◌≡◌, ℕ, ◌+◌, ◌-◌, ◌≤◌, map}
use Rattle.plan_model.specs.{declared.model.Query.Query, Network.{NetworkModel, IsValid}, Strategy.IsSafeFor, View.{IsView, later_by}}
use Rattle.plan_graph.specs.{declared.{GraphRow.GraphRow, PlaceTable.PlaceTable, PlanGraph.PlanGraph}, Tidy.IsTidy, Unfold.unfold_plan}

-- the row by the shift later
abbrev pub later_row : ℕ → GraphRow → GraphRow
later_row shift row = record { by = record { 0 = row.by.0 + shift }; leg = row.leg }

abbrev pub later_table : ℕ → PlaceTable → PlaceTable
later_table shift table = record { place = table.place; rows = map (later_row shift) table.rows }

-- the graph by the shift later
abbrev pub later_graph : ℕ → PlanGraph → PlanGraph
later_graph shift graph = record { start = graph.start; tables = map (later_table shift) graph.tables }

-- the query by the shift later
abbrev pub later_query : ℕ → Query → Query
later_query shift query = record { source = query.source; target = query.target; start = record { 0 = query.start.0 + shift }; deadline = record { 0 = query.deadline.0 + shift } }

-- the query by this many seconds sooner
abbrev pub sooner_query : ℕ → Query → Query
sooner_query shift query = record { source = query.source; target = query.target; start = record { 0 = query.start.0 - shift }; deadline = record { 0 = query.deadline.0 - shift } }

-- a network and a view of it with the same places, and a query of the view from the first moment on
pub record IsShown (n m : NetworkModel) (shift first : ℕ) (query : Query) : Type 0 where
  pub view : IsView n m shift first
  pub same_places : n.change ≡ m.change
  pub valid_view : IsValid n
  pub valid : IsValid m
  pub late : first ≤ query.start.0 + shift

-- of a graph that is tidy and safe for a query of a view, the later graph is tidy and safe for the later query; it unfolds to the later tree
pub record LaterAlike (n m : NetworkModel) (shift : ℕ) (query : Query) (graph : PlanGraph) : Type 0 where
  pub unfolds : unfold_plan (later_graph shift graph) m (later_query shift query) ≡ later_by shift (unfold_plan graph n query)
  pub safe : IsSafeFor m (later_query shift query) (unfold_plan (later_graph shift graph) m (later_query shift query))
  pub tidy : IsTidy m (later_query shift query) (later_graph shift graph)
