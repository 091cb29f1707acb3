-- What the graph of the least chance of being late says, in the network as it is seen from a start on.
use Rattle.std.specs.Prelude.{ℕ, ◌-◌, map, nat_le, ◌&&◌, ◌≡◌, ◌+◌, ◌^◌, ◌<◌, ◌≤◌, All}
use Rattle.plan_model.specs.{declared.model.{Connection.Connection, Query.Query}, Network.{NetworkModel, count}, Tree.Tree, Bounds.certainty}
use Rattle.plan_model.specs.{Strategy.IsSafeFor, Expected.{late, LateBelow, LateCovers}}
use Rattle.interval_fixed.specs.Interval.{Interval}
use Rattle.value_laws.specs.Spans.{rounded_up, rounded_down}
use Rattle.plan_graph.specs.{declared.PlanGraph.PlanGraph, Tidy.IsTidy, Unfold.unfold_plan}
use Rattle.late_chance.specs.{Chances.promised, LaterGraphs.{later_graph, later_query, sooner_query}}

abbrev pub shifted_connection : (shift start : ℕ) → Connection → Connection
shifted_connection shift start c = record c { dep = record { 0 = c.dep.0 - shift }; arr = record { 0 = c.arr.0 - shift }; can_board = c.can_board && nat_le start c.dep.0 }

abbrev pub shifted_parts : (shift start : ℕ) → NetworkModel → NetworkModel
shifted_parts shift start m = record m { connections = map (shifted_connection shift start) m.connections }

-- the graph is tidy and its strategy safe; the bounds enclose the chance that it arrives after the promised moment,
-- the upper one is that with each mean rounded up, ride by ride: the least of all safe strategies; the lower one is below that of
-- every safe strategy, and at most that with each mean rounded down; they differ by at most one unit for each connection
pub record IsPunctual (m : NetworkModel) (query : Query) (promise : ℕ) (graph : PlanGraph) (chance : Interval) : Type 0 where
  pub tidy : IsTidy m query graph
  pub safe : IsSafeFor m query (unfold_plan graph m query)
  pub below_own : LateBelow promise chance.lo (unfold_plan graph m query)
  pub covers_own : LateCovers promise chance.hi (unfold_plan graph m query)
  pub rounded : chance.hi ≡ rounded_up certainty (late promise) (unfold_plan graph m query)
  pub below_safe : (tree : Tree) → IsSafeFor m query tree → LateBelow promise chance.lo tree
  pub least : (tree : Tree) → IsSafeFor m query tree → chance.lo ≤ rounded_down certainty (late promise) tree
  pub least_up : (tree : Tree) → IsSafeFor m query tree → chance.hi ≤ rounded_up certainty (late promise) tree
  pub gap : chance.hi - chance.lo ≤ count m
  pub at_once : query.source.0 ≡ query.target.0 → query.start.0 ≤ promise → chance ≡ record { lo = 0; hi = 0 }

-- what a view shows of this holds of the network by the shift later
pub record PunctualAlike (n m : NetworkModel) (shift : ℕ) (query : Query) : Type 0 where
  pub graphs : (promise : ℕ) (graph : PlanGraph) (chance : Interval) → IsPunctual n query promise graph chance
      → IsPunctual m (later_query shift query) (promise + shift) (later_graph shift graph) chance
  pub none : ((tree : Tree) → IsSafeFor n query tree → ⊥) → (tree : Tree) → IsSafeFor m (later_query shift query) tree → ⊥

-- by how much the network is shifted, so that the promise is the moment that represents it
abbrev pub shift_for : (promise : ℕ) → ℕ
shift_for promise = promise - promised

-- the network as it is seen for a query and a promise, and the query that is asked there
abbrev pub seen_for : NetworkModel → Query → (promise : ℕ) → NetworkModel
seen_for m query promise = shifted_parts (shift_for promise) query.start.0 m

abbrev pub asked_for : Query → (promise : ℕ) → Query
asked_for query promise = sooner_query (shift_for promise) query

-- what a graph of the network that is seen says there, the later graph says of the network itself; its moments are in range.
-- nothing is safe in the one exactly where nothing is in the other
pub record IsAboutNetwork (m : NetworkModel) (query : Query) (promise : ℕ) : Type 0 where
  pub graphs : (graph : PlanGraph) (chance : Interval) → IsPunctual (seen_for m query promise) (asked_for query promise) promised graph chance →
      IsPunctual m query promise (later_graph (shift_for promise) graph) chance
  pub in_range : (graph : PlanGraph) → IsTidy (seen_for m query promise) (asked_for query promise) graph →
      All (λ table. All (λ row. row.by.0 + shift_for promise < 2 ^ 64) table.rows) graph.tables
  pub none : ((tree : Tree) → IsSafeFor (seen_for m query promise) (asked_for query promise) tree → ⊥) → (tree : Tree) → IsSafeFor m query tree → ⊥
  pub none_back : ((tree : Tree) → IsSafeFor m query tree → ⊥) → (tree : Tree) → IsSafeFor (seen_for m query promise) (asked_for query promise) tree → ⊥
