-- Which graphs can be printed.
use Rattle.std.specs.Prelude.{ℕ, ◌<◌, ◌≤◌, length, All, IfSome}
use Rattle.plan_model.specs.{declared.model.Query.Query, Network.NetworkModel}
use Rattle.plan_graph.specs.{declared.{GraphRow.GraphRow, Ride.Ride, PlaceTable.PlaceTable, ExpandedGraph.ExpandedGraph, PlanGraph.PlanGraph}, Ready.IsLegOf}
use Rattle.clock_text.specs.Civil.{last_printable}

-- a moment before the year 10000
abbrev pub IsPrintableMoment : ℕ → Type 0
IsPrintableMoment moment = moment ≤ last_printable

-- its places are the network's, and its moments have texts
pub record IsPrintableQuery (network : NetworkModel) (query : Query) : Type 0 where
  pub source : query.source.0 < length network.change
  pub target : query.target.0 < length network.change
  pub start : IsPrintableMoment query.start.0
  pub deadline : IsPrintableMoment query.deadline.0

pub record IsPrintableRow (network : NetworkModel) (row : GraphRow) : Type 0 where
  pub is_leg : IsLegOf network row.leg
  pub by : IsPrintableMoment row.by.0

pub record IsPrintableRide (network : NetworkModel) (r : Ride) : Type 0 where
  pub is_leg : IsLegOf network r.leg
  pub rows : All (IsPrintableRow network) r.after

-- every leg is the network's, and every moment has a text
pub record IsPrintableExpanded (network : NetworkModel) (graph : ExpandedGraph) : Type 0 where
  pub start : IfSome graph.start (IsLegOf network)
  pub rides : All (IsPrintableRide network) graph.rides

pub record IsPrintableTable (network : NetworkModel) (table : PlaceTable) : Type 0 where
  pub place : table.place.0 < length network.change
  pub rows : All (IsPrintableRow network) table.rows

-- the same of a graph by place, whose tables are of the network's places
pub record IsPrintablePlan (network : NetworkModel) (graph : PlanGraph) : Type 0 where
  pub start : IfSome graph.start (IsLegOf network)
  pub tables : All (IsPrintableTable network) graph.tables
