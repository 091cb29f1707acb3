-- The rides that a choice of legs reaches from a start leg, their tables, and which legs are in the tree that it fixes.
use Rattle.std.specs.{Prelude.{ℕ, ◌+◌, List, [], ◌∷◌, Option, Some, None, ◌==◌, if◌then◌else◌, Contains, ◌≡◌, ◌≢◌, All, AllPairs}, Ordering.nat_cmp}
use Rattle.std.specs.{Ordering.ordering_then, declared.cmp.Ordering.Ordering, BTreeSet.insert_key, List.Sorted.IsStrictlySortedBy}
use Rattle.plan_model.specs.{declared.model.{Leg.Leg, Outcome.Outcome, Query.Query}, Network.{NetworkModel, arr_of}, Unfold.{end_of, outcomes_of, kids_after}}
use Rattle.plan_model.specs.{Unfold.{unfold_after, arrival_of, unfolding_of}, Tree.{Tree, Kids}, Strategy.{AreSafe, IsBoardable}}
use Rattle.plan_graph.specs.{declared.{GraphRow.GraphRow, Ride.Ride}, Ready.{IsLegOf, Stands, StandsIn}, Unfold.{Precedes, pick_after}}

-- the row of a leg that is taken after an arrival by a moment
abbrev pub row_by : ℕ → Leg → GraphRow
row_by moment leg = record { by = record { 0 = moment }; leg = leg }

-- with a row for an arrival, if a leg is chosen
abbrev pub with_row : ℕ → Option Leg → List GraphRow → List GraphRow
with_row arrival None rows = rows
with_row arrival (Some leg) rows = row_by arrival leg ∷ rows

-- a row for each outcome, by its arrival
abbrev pub rows_for : (ℕ → Option Leg) → ℕ → List Outcome → List GraphRow
rows_for choice scheduled [] = []
rows_for choice scheduled (o ∷ row) = with_row (scheduled + o.delay) (choice (scheduled + o.delay)) (rows_for choice scheduled row)

-- the table after a leg; none at the target
abbrev pub table_after : NetworkModel → ℕ → (Leg → ℕ → Option Leg) → Leg → List GraphRow
table_after network target choice leg = if end_of network leg == target then [] else rows_for (choice leg) (arr_of network leg.exit.0) (outcomes_of network leg)

-- by entry, and then by exit
abbrev pub leg_cmp : Leg → Leg → Ordering
leg_cmp a b = ordering_then (nat_cmp a.enter.0 b.enter.0) (nat_cmp a.exit.0 b.exit.0)

-- with a leg among legs in their order
abbrev pub with_leg : List Leg → Leg → List Leg
with_leg legs leg = insert_key leg_cmp legs leg

-- the ride of a leg, with its table
abbrev pub ride_of_leg : NetworkModel → ℕ → (Leg → ℕ → Option Leg) → Leg → Ride
ride_of_leg network target choice leg = record { leg = leg; after = table_after network target choice leg }

-- what is done after a leg, over at most this many rides
abbrev pub children_of : NetworkModel → ℕ → (Leg → ℕ → Option Leg) → ℕ → Leg → Kids
children_of network target choice rides leg = kids_after (unfold_after network target choice rides leg) (arr_of network leg.exit.0) (outcomes_of network leg)

-- the leg's ride is in a tree, and what is done after it is safe
pub record StandsSafely (network : NetworkModel) (target : ℕ) (deadline : Option ℕ) (choice : Leg → ℕ → Option Leg) (whole : Tree) (leg : Leg) : Type 0 where
  pub is_leg : IsLegOf network leg
  pub rides : ℕ
  pub safe : AreSafe network target deadline (children_of network target choice rides leg) (outcomes_of network leg) (end_of network leg) (arr_of network leg.exit.0)
  pub stands : Stands leg whole
  pub below : (other : Leg) → StandsIn other (children_of network target choice rides leg) → Stands other whole

-- these are the legs that are reached from a start leg, in order
pub record IsReached (network : NetworkModel) (target : ℕ) (choice : Leg → ℕ → Option Leg) (whole : Tree) (start : Leg) (legs : List Leg) : Type 0 where
  pub deadline : Option ℕ
  pub start_there : Contains legs start
  pub placed : (leg : Leg) → Contains legs leg → StandsSafely network target deadline choice whole leg
  pub closed : (leg : Leg) → Contains legs leg → (row : GraphRow) → Contains (table_after network target choice leg) row → Contains legs row.leg
  pub ordered : IsStrictlySortedBy leg_cmp legs

-- a ride of the leg is among these
abbrev pub HasRideOf : List Ride → Leg → Type 0
HasRideOf rides leg = (r : Ride) × Contains rides r × (r.leg ≡ leg)

-- after a leg that arrives at a moment, a leg is chosen that can be boarded
pub record IsTaken (network : NetworkModel) (choice : Leg → ℕ → Option Leg) (leg : Leg) (arrival : ℕ) : Type 0 where
  pub next : Leg
  pub is_chosen : choice leg arrival ≡ Some next
  pub is_leg : IsLegOf network next
  pub boards : IsBoardable network (end_of network leg) arrival next.enter.0

-- these rides, in order, are those that are in the tree of the choice, each with a row for each outcome
pub record IsWalked (network : NetworkModel) (query : Query) (choice : Leg → ℕ → Option Leg) (start : Leg) (rides : List Ride) : Type 0 where
  pub unfolds : unfolding_of network query (pick_after rides) (Some start) ≡ unfolding_of network query choice (Some start)
  pub rising : AllPairs (λ a b. Precedes a.leg b.leg) rides
  pub legs : All (λ r. IsLegOf network r.leg) rides
  pub tables : All (λ r. r.after ≡ table_after network query.target.0 choice r.leg) rides
  pub stands : All (λ r. Stands r.leg (unfolding_of network query choice (Some start))) rides
  pub whole : (leg : Leg) → Stands leg (unfolding_of network query choice (Some start)) → HasRideOf rides leg
  pub begins : HasRideOf rides start
  pub closed : (r : Ride) → Contains rides r → (row : GraphRow) → Contains r.after row → HasRideOf rides row.leg
  pub taken : (r : Ride) → Contains rides r → end_of network r.leg ≢ query.target.0 → (o : Outcome) → Contains (outcomes_of network r.leg) o
      → IsTaken network choice r.leg (arrival_of network r.leg o.delay)
