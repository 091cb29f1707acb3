-- The score of a graph: bounds on the expected arrival of its tree, or where and when a traveller fails, by being stuck or arriving after the deadline.
use Rattle.std.specs.Prelude.{◌≡◌, ℕ, ◌<◌, ◌≤◌, ◌⊎◌, ◌*◌, List, [], ◌∷◌, ◌-◌, Result, Ok, Err, All}
use Rattle.plan_model.specs.{declared.model.Query.Query, Tree.{Tree, Done, Ride, Stuck, Kids, Nil, Kid}, Bounds.nanos_per_second, Network.NetworkModel}
use Rattle.plan_model.specs.{Network.{outcomes, count}, Strategy.IsSafeFor, Expected.Encloses}
use Rattle.interval_fixed.specs.Interval.{Interval, mean_of}
use Rattle.plan_graph.specs.{declared.PlanGraph.PlanGraph, Unfold.unfold_plan}
use Rattle.graph_score.specs.declared.{ScoreFault.{ScoreFault, TheVariants.{NoSuchLeg, Unsafe, NoMemory}}, outlooks.Outlook.{Outlook, TheVariants.Safe}}
use Rattle.graph_score.specs.{declared.outlooks.Outlook.TheVariants.Failing, Legs.{legs_of, IsFitLeg, IsFirstWrong}}

abbrev mutual
  -- by the tree the traveller may be stuck at a place at a moment, or arrive there, at the target, after the deadline
  pub Fails : Query → Tree → ℕ → ℕ → Type 0
  Fails query (Done moment) p x = (p ≡ query.target.0) × (x ≡ moment) × (query.deadline.0 < moment)
  Fails query (Ride i j kids) p x = FailsIn query kids p x
  Fails query (Stuck place moment) p x = (p ≡ place) × (x ≡ moment)

  pub FailsIn : Query → Kids → ℕ → ℕ → Type 0
  FailsIn query Nil p x = ⊥
  FailsIn query (Kid weight tree kids) p x = Fails query tree p x ⊎ FailsIn query kids p x

-- one moment is less than the other, or they are equal and one place is not greater than the other
abbrev pub IsNotAfter : (p x r y : ℕ) → Type 0
IsNotAfter p x r y = (x < y) ⊎ ((x ≡ y) × (p ≤ r))

-- the traveller may fail at the place at the moment: the least moment at which this may be, and the least place where it
-- may be at this moment
pub record IsFirstFailure (F : ℕ → ℕ → Type 0) (p x : ℕ) : Type 0 where
  pub fails : F p x
  pub first : (r y : ℕ) → F r y → IsNotAfter p x r y

-- a moment in nanoseconds, as both bounds
abbrev pub exact : ℕ → Interval
exact moment = record { lo = nanos_per_second * moment; hi = nanos_per_second * moment }

abbrev mutual
  -- from the arrivals upward, ride by ride the mean rounded outward; of trees that are never stuck
  pub span_of : NetworkModel → Tree → Interval
  span_of network (Done moment) = exact moment
  span_of network (Ride i j kids) = mean_of (outcomes network j) (spans_of network kids)
  span_of network (Stuck place moment) = exact moment

  pub spans_of : NetworkModel → Kids → List Interval
  spans_of network Nil = []
  spans_of network (Kid weight tree kids) = span_of network tree ∷ spans_of network kids

-- the tree is safe; its bounds enclose its expected arrival, and are at most one nanosecond apart for each connection
pub record IsScored (network : NetworkModel) (query : Query) (tree : Tree) (bounds : Interval) : Type 0 where
  pub safe : IsSafeFor network query tree
  pub means : bounds ≡ span_of network tree
  pub encloses : Encloses bounds.lo bounds.hi tree
  pub gap : bounds.hi - bounds.lo ≤ count network

-- the tree is not safe, and the traveller may fail first at this place at this moment
pub record IsUnsafe (network : NetworkModel) (query : Query) (tree : Tree) (p x : ℕ) : Type 0 where
  pub unsafe : IsSafeFor network query tree → ⊥
  pub first : IsFirstFailure (Fails query tree) p x

-- the bounds of a tree that is safe, or where and when the traveller may fail first
abbrev pub IsScoreOf : NetworkModel → Query → Tree → Outlook → Type 0
IsScoreOf network query tree (Safe bounds) = IsScored network query tree bounds
IsScoreOf network query tree (Failing f) = IsUnsafe network query tree f.place.0 f.moment.0

-- the bounds of the graph's tree; or why it has none
abbrev pub IsScore : NetworkModel → Query → PlanGraph → Result Interval ScoreFault → Type 0
IsScore network query graph (Ok bounds) = All (IsFitLeg network query) (legs_of graph) × IsScored network query (unfold_plan graph network query) bounds
IsScore network query graph (Err (NoSuchLeg k)) = IsFirstWrong network query (legs_of graph) k
IsScore network query graph (Err (Unsafe place moment)) = All (IsFitLeg network query) (legs_of graph) × IsUnsafe network query (unfold_plan graph network query) place.0 moment.0
IsScore network query graph (Err NoMemory) = Unit {0}
