-- Which graphs by ride are ready to be pruned, and which are pruned.
use Rattle.std.specs.Prelude.{◌≡◌, ◌≢◌, ℕ, ◌<◌, ◌≤◌, ◌⊎◌, Bool, false, List, [], ◌∷◌, Option, Some, None, MatchOption, All, AllPairs, Contains, nat_le}
use Rattle.std.specs.Prelude.{if◌then◌else◌}
use Rattle.plan_model.specs.{declared.model.{Leg.Leg, Outcome.Outcome, Query.Query}, Network.NetworkModel, Tree.{Tree, Done, Ride as Rides, Stuck, Kids, Nil}}
use Rattle.plan_model.specs.{Tree.Kid, Strategy.{IsLeg, IsSafeFromStart}, Ways.limit_of, Unfold.{end_of, arrival_of, outcomes_of}}
use Rattle.plan_graph.specs.{declared.{GraphRow.GraphRow, Ride.Ride, ExpandedGraph.ExpandedGraph}, Unfold.{pick_row, Precedes, unfold_expanded}}

abbrev pub IsLegOf : NetworkModel → Leg → Type 0
IsLegOf network leg = IsLeg network leg.enter.0 leg.exit.0

-- from some deadline on, the tree is safe for a traveller who sets out at the source at the start
abbrev pub IsSafeForSome : NetworkModel → Query → Tree → Type 0
IsSafeForSome network query tree = (deadline : ℕ) × IsSafeFromStart network query.target.0 (Some deadline) tree query.source.0 query.start.0

-- the ride of the leg is in the tree
abbrev mutual
  pub Stands : Leg → Tree → Type 0
  Stands leg (Done moment) = ⊥
  Stands leg (Rides enter exit kids) = ((leg.enter.0 ≡ enter) × (leg.exit.0 ≡ exit)) ⊎ StandsIn leg kids
  Stands leg (Stuck place moment) = ⊥

  pub StandsIn : Leg → Kids → Type 0
  StandsIn leg Nil = ⊥
  StandsIn leg (Kid weight tree kids) = Stands leg tree ⊎ StandsIn leg kids

-- whether there is a limit, and the arrival is not after it
abbrev pub is_within : Option ℕ → ℕ → Bool
is_within None arrival = false
is_within (Some limit) arrival = nat_le arrival limit

-- at a place, the leg of the first row whose leg's limit is not before an arrival
abbrev pub pick_in_time : NetworkModel → ℕ → List GraphRow → ℕ → Option Leg
pick_in_time network place [] arrival = None
pick_in_time network place (row ∷ rows) arrival = if is_within (limit_of network place row.leg) arrival then Some row.leg else pick_in_time network place rows arrival

-- the row's leg can be reached from the place by the row's moment
pub record IsReadyRow (network : NetworkModel) (place : ℕ) (row : GraphRow) : Type 0 where
  pub is_leg : IsLegOf network row.leg
  pub limit : ℕ
  pub is_limit : limit_of network place row.leg ≡ Some limit
  pub in_time : row.by.0 ≤ limit

-- a row may come before another: moments rise, limits do not fall, and equal limits have equal legs
pub record MayPrecede (network : NetworkModel) (place : ℕ) (a b : GraphRow) : Type 0 where
  pub by : a.by.0 < b.by.0
  pub limits : (first second : ℕ) → limit_of network place a.leg ≡ Some first → limit_of network place b.leg ≡ Some second → first ≤ second
  pub legs : limit_of network place a.leg ≡ limit_of network place b.leg → a.leg ≡ b.leg

-- a ride with its rows; away from the target, the first row not before an arrival has the leg of the first row in time for it
pub record IsReadyRide (network : NetworkModel) (target : ℕ) (r : Ride) : Type 0 where
  pub is_leg : IsLegOf network r.leg
  pub rows : All (IsReadyRow network (end_of network r.leg)) r.after
  pub rising : AllPairs (MayPrecede network (end_of network r.leg)) r.after
  pub picks : end_of network r.leg ≢ target → (o : Outcome) → Contains (outcomes_of network r.leg) o →
      pick_row r.after (arrival_of network r.leg o.delay) ≡ pick_in_time network (end_of network r.leg) r.after (arrival_of network r.leg o.delay)

-- the graph may be pruned
pub record IsReady (network : NetworkModel) (query : Query) (graph : ExpandedGraph) : Type 0 where
  pub safe : IsSafeForSome network query (unfold_expanded graph network query)
  pub starts : MatchOption graph.start (query.source.0 ≡ query.target.0) (λ leg. (query.source.0 ≢ query.target.0) × IsLegOf network leg)
  pub rising : AllPairs (λ a b. Precedes a.leg b.leg) graph.rides
  pub rides : All (IsReadyRide network query.target.0) graph.rides

-- the row is the first of its list that is not before an arrival
abbrev pub IsFirstInTime : List GraphRow → ℕ → GraphRow → Type 0
IsFirstInTime [] arrival row = ⊥
IsFirstInTime (head ∷ rows) arrival row = ((arrival ≤ head.by.0) × (row ≡ head)) ⊎ ((head.by.0 < arrival) × IsFirstInTime rows arrival row)

-- an outcome of the ride, which does not end at the target, picks the row
abbrev pub IsPickedAfter : NetworkModel → ℕ → Ride → GraphRow → Type 0
IsPickedAfter network target r row =
    (end_of network r.leg ≢ target)
    × ((o : Outcome) × Contains (outcomes_of network r.leg) o × IsFirstInTime r.after (arrival_of network r.leg o.delay) row)

-- no row and no ride is idle
pub record IsBusy (network : NetworkModel) (query : Query) (graph : ExpandedGraph) : Type 0 where
  pub picked : All (λ r. All (IsPickedAfter network query.target.0 r) r.after) graph.rides
  pub stands : All (λ r. Stands r.leg (unfold_expanded graph network query)) graph.rides

-- each row is by its leg's limit
abbrev pub IsByLimits : NetworkModel → Ride → Type 0
IsByLimits network r = All (λ row. limit_of network (end_of network r.leg) row.leg ≡ Some row.by.0) r.after

-- the graph is pruned
pub record IsPruned (network : NetworkModel) (query : Query) (graph : ExpandedGraph) : Type 0 where
  pub ready : IsReady network query graph
  pub by : All (IsByLimits network) graph.rides
  pub busy : IsBusy network query graph
