-- A trip by a tree where each connection has a delay of its own.
use Rattle.std.specs.Prelude.{◌≡◌, ℕ, ◌<◌, ◌≤◌, List, [], Ok, All, true}
use Rattle.plan_model.specs.{Network.{NetworkModel, count, outcomes}, Tree.Tree}
use Rattle.trip_replay.specs.{declared.{Ridden.Ridden, Trace.Trace}, Rides.has_delay, Walk.walk}

-- each connection is late by one of the delays of its class
abbrev pub ArePossible : NetworkModel → (ℕ → ℕ) → Type 0
ArePossible network late = (j : ℕ) → j < count network → has_delay (outcomes network j) (late j) ≡ true

-- a ride is late as its last connection is
abbrev pub IsLateBy : (ℕ → ℕ) → Ridden → Type 0
IsLateBy late r = r.delay ≡ late r.leg.exit.0

-- there are delays by which the walk down the tree comes to its end, and that by the deadline; each is that of the connection at whose end the traveller alights
pub record Arrives (network : NetworkModel) (deadline : ℕ) (tree : Tree) (late : ℕ → ℕ) : Type 0 where
  pub delays : List ℕ
  pub trace : Trace
  pub trip : walk network tree delays [] ≡ Ok trace
  pub in_time : trace.arrival.0 ≤ deadline
  pub late_by : All (IsLateBy late) trace.rides
