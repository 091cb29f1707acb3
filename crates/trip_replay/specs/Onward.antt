-- A trip by the tables of a graph where each ride is as late as it happens to be.
use Rattle.std.specs.Prelude.{◌≡◌, ◌≢◌, ℕ, zero, suc, ◌<◌, ◌≤◌, ◌⊎◌, List, Some, Contains}
use Rattle.plan_model.specs.{declared.model.{Leg.Leg, Outcome.Outcome, Query.Query}, Network.{NetworkModel, count, outcomes}, Strategy.IsBoardable}
use Rattle.plan_model.specs.Unfold.{end_of, arrival_of}
use Rattle.plan_graph.specs.{declared.{PlaceTable.PlaceTable, PlanGraph.PlanGraph}, Unfold.pick_at}

-- each connection is no later than by some delay of its class
abbrev pub AreUpTo : NetworkModel → (ℕ → ℕ) → Type 0
AreUpTo network late = (j : ℕ) → j < count network → (o : Outcome) × Contains (outcomes network j) o × (late j ≤ o.delay)

-- when the ride of a leg ends
abbrev pub late_end : NetworkModel → (ℕ → ℕ) → Leg → ℕ
late_end network late leg = arrival_of network leg (late leg.exit.0)

-- a traveller who rides the leg, and after each ride the leg of the first row that is not before the arrival, is in time for each
-- and is at the target at x, after this many rides
abbrev pub LeadsTo : NetworkModel → List PlaceTable → (target : ℕ) → (late : ℕ → ℕ) → (rides : ℕ) → Leg → (x : ℕ) → Type 0
LeadsTo network tables target late zero leg x = ⊥
LeadsTo network tables target late (suc rides) leg x =
    ((end_of network leg ≡ target) × (x ≡ late_end network late leg))
    ⊎ ((end_of network leg ≢ target)
    × ((next : Leg) × (pick_at tables (end_of network leg) (late_end network late leg) ≡ Some next)
    × IsBoardable network (end_of network leg) (late_end network late leg) next.enter.0 × LeadsTo network tables target late rides next x))

-- after some number of rides the traveller is at the target, by the deadline
abbrev pub LeadsInTime : NetworkModel → List PlaceTable → Query → (late : ℕ → ℕ) → Leg → Type 0
LeadsInTime network tables query late leg =
    (rides : ℕ) × ((x : ℕ) × LeadsTo network tables query.target.0 late rides leg x × (x ≤ query.deadline.0))

-- a traveller who begins with the start leg is
abbrev pub ArrivesByRows : NetworkModel → Query → PlanGraph → (late : ℕ → ℕ) → Type 0
ArrivesByRows network query graph late = (leg : Leg) → graph.start ≡ Some leg → LeadsInTime network graph.tables query late leg
