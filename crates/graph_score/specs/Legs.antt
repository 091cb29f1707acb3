-- The legs of a graph, which of them fit a network and a query, and the connections that they end with.
use Rattle.std.specs.{Prelude.{◌≡◌, ◌≢◌, ℕ, ◌+◌, List, [], ◌∷◌, ◌++◌, Option, Some, None, map, length, All, ◌<◌, ◌≤◌, AllPairs, Contains}, List.flat_map}
use Rattle.plan_model.specs.{declared.{model.{Leg.Leg, Query.Query, ConnectionId.ConnectionId}, departure.Departure.Departure}, Network.{NetworkModel, count}}
use Rattle.plan_model.specs.Order.{departure_of}
use Rattle.plan_graph.specs.{declared.{PlaceTable.PlaceTable, PlanGraph.PlanGraph}, Tidy.{IsFitStart, IsFitRow}}
use Rattle.graph_score.specs.declared.legs.GraphLeg.{GraphLeg, TheVariants.{Start, Row}}

-- the start leg, where there is one
abbrev pub start_leg : Option Leg → List GraphLeg
start_leg None = []
start_leg (Some leg) = Start leg ∷ []

-- the rows of a table, with its place
abbrev pub legs_in : PlaceTable → List GraphLeg
legs_in table = map (λ row. Row table.place row) table.rows

-- the start leg, and then the rows of each table in their order
abbrev pub legs_of : PlanGraph → List GraphLeg
legs_of graph = start_leg graph.start ++ flat_map legs_in graph.tables

-- a start leg may leave the source at the start or later; that of a row is taken up to its limit. Where source and target
-- are one place no leg fits
abbrev pub IsFitLeg : NetworkModel → Query → GraphLeg → Type 0
IsFitLeg network query (Start leg) = IsFitStart network query leg
IsFitLeg network query (Row place row) = (query.source.0 ≢ query.target.0) × IsFitRow network place.0 row

-- the k-th leg, where the first one is 1, does not fit, and each before it does
pub record IsFirstWrong (network : NetworkModel) (query : Query) (legs : List GraphLeg) (k : ℕ) : Type 0 where
  pub before : List GraphLeg
  pub wrong : GraphLeg
  pub others : List GraphLeg
  pub split : legs ≡ before ++ wrong ∷ others
  pub number : k ≡ length before + 1
  pub fit : All (IsFitLeg network query) before
  pub breaks : IsFitLeg network query wrong → ⊥

-- the connection that a leg ends with
abbrev pub exit_of : GraphLeg → ConnectionId
exit_of (Start leg) = leg.exit
exit_of (Row place row) = row.leg.exit

-- these are the connections that the legs end with, and perhaps more than once, the first departure first
pub record AreExits (network : NetworkModel) (legs : List GraphLeg) (exits : List Departure) : Type 0 where
  pub each : All (λ e. (e.id.0 < count network) × (e ≡ departure_of network e.id)) exits
  pub all : All (λ leg. Contains exits (departure_of network (exit_of leg))) legs
  pub rising : AllPairs (λ a b. a.dep.0 ≤ b.dep.0) exits
