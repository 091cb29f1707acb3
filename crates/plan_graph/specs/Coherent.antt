-- Which graphs by ride have tables that agree at each place, and which follow one choice there.
use Rattle.std.specs.Prelude.{◌≡◌, ℕ, ◌≤◌, Some, Contains, ◌≢◌, Option}
use Rattle.plan_model.specs.{declared.model.{Outcome.Outcome, Leg.Leg}, Network.NetworkModel, Unfold.{end_of, arrival_of, outcomes_of}, Ways.IsKept}
use Rattle.plan_graph.specs.{declared.{GraphRow.GraphRow, Ride.Ride, ExpandedGraph.ExpandedGraph}, Unfold.pick_row}

-- the row comes after some ride that ends at the place
abbrev pub IsRowAt : NetworkModel → ExpandedGraph → ℕ → GraphRow → Type 0
IsRowAt network graph place row = (r : Ride) × Contains graph.rides r × (end_of network r.leg ≡ place) × Contains r.after row

-- of the rows of all rides that end at the place, the row is the earliest that is not before the arrival
pub record IsEarliest (network : NetworkModel) (graph : ExpandedGraph) (place arrival : ℕ) (row : GraphRow) : Type 0 where
  pub there : IsRowAt network graph place row
  pub in_time : arrival ≤ row.by.0
  pub least : (other : GraphRow) → IsRowAt network graph place other → arrival ≤ other.by.0 → row.by.0 ≤ other.by.0

-- put the rows of all rides that end at one place into one table: rows of one moment have one leg,
-- and for each ride and outcome the table picks what the ride's own rows pick
pub record IsCoherent (network : NetworkModel) (graph : ExpandedGraph) : Type 0 where
  pub agree : (place : ℕ) (a b : GraphRow) → IsRowAt network graph place a → IsRowAt network graph place b → a.by.0 ≡ b.by.0 → a.leg ≡ b.leg
  pub picks : (r : Ride) → Contains graph.rides r → (o : Outcome) → Contains (outcomes_of network r.leg) o → (row : GraphRow) →
      IsEarliest network graph (end_of network r.leg) (arrival_of network r.leg o.delay) row → pick_row r.after (arrival_of network r.leg o.delay) ≡ Some row.leg

-- away from the target, what is chosen is kept up to its leg's limit
abbrev pub IsSteady : NetworkModel → ℕ → (ℕ → ℕ → Option Leg) → Type 0
IsSteady network target choice = (place arrival : ℕ) (leg : Leg) → place ≢ target → choice place arrival ≡ Some leg → IsKept network choice place arrival leg

-- after each outcome of each ride away from the target the graph picks a leg, which is the one chosen
abbrev pub Follows : NetworkModel → ℕ → (ℕ → ℕ → Option Leg) → ExpandedGraph → Type 0
Follows network target choice graph =
    (r : Ride) → Contains graph.rides r → end_of network r.leg ≢ target → (o : Outcome) → Contains (outcomes_of network r.leg) o →
    (leg : Leg) × (pick_row r.after (arrival_of network r.leg o.delay) ≡ Some leg) × (choice (end_of network r.leg) (arrival_of network r.leg o.delay) ≡ Some leg)
