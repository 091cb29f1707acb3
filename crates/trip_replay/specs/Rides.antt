-- Where a traveller is between rides, and the rides of a trip.
use Rattle.std.specs.{Prelude.{ℕ, ◌+◌, Bool, List, Option, Some, None, ◌==◌, if◌then◌else◌, ◌≡◌, [], ◌∷◌, All, true}, List.list_any}
use Rattle.plan_model.specs.{declared.model.{Leg.Leg, Outcome.Outcome, Query.Query}, Network.{NetworkModel, arr_of, to_of}, Tree.{Tree, Done}}
use Rattle.plan_model.specs.Unfold.{outcomes_of, ride_or_stuck, unfold_after}
use Rattle.trip_replay.specs.declared.{Position.Position, Ridden.Ridden, ReplayFault.{ReplayFault, TheVariants.{NotADelay, TooFew, TooMany, Stuck, NoMemory}}}
use Rattle.plan_graph.specs.Ready.{IsLegOf}

-- whether one of the outcomes has this delay
abbrev pub has_delay : List Outcome → ℕ → Bool
has_delay row delay = list_any (λ o. o.delay == delay) row

-- the arrival of a leg with a delay, if it can have that delay
abbrev pub delayed_arrival : NetworkModel → Leg → ℕ → Option ℕ
delayed_arrival network leg delay = if has_delay (outcomes_of network leg) delay then Some (arr_of network leg.exit.0 + delay) else None

-- the tree from a position on
abbrev pub tree_at : NetworkModel → ℕ → (Leg → ℕ → Option Leg) → Position → Tree
tree_at network target choice s =
    if s.place.0 == target
    then Done s.moment.0
    else ride_or_stuck network (unfold_after network target choice s.remaining) s.next s.place.0 s.moment.0

-- a leg of the network, with a delay that it can have and the arrival that follows from it
pub record IsRidden (network : NetworkModel) (r : Ridden) : Type 0 where
  pub is_leg : IsLegOf network r.leg
  pub is_delay : has_delay (outcomes_of network r.leg) r.delay ≡ true
  pub late : r.arrival.0 ≡ arr_of network r.leg.exit.0 + r.delay

-- the arrival of the last ride, and the start if there is none
abbrev pub arrival_after : ℕ → List Ridden → ℕ
arrival_after start [] = start
arrival_after start (r ∷ rides) = arrival_after r.arrival.0 rides

-- the place where the last ride ends, and the source where there is none
abbrev pub place_after : NetworkModel → ℕ → List Ridden → ℕ
place_after network source [] = source
place_after network source (r ∷ rides) = place_after network (to_of network r.leg.exit.0) rides

-- a traveller is stuck where some rides end, when they do
abbrev pub IsStuckAfter : NetworkModel → Query → ReplayFault → Type 0
IsStuckAfter network query (Stuck place moment) =
    (rides : List Ridden) × All (IsRidden network) rides × (place.0 ≡ place_after network query.source.0 rides) × (moment.0 ≡ arrival_after query.start.0 rides)
IsStuckAfter network query (NotADelay number) = Unit {0}
IsStuckAfter network query (TooFew ridden) = Unit {0}
IsStuckAfter network query (TooMany ridden) = Unit {0}
IsStuckAfter network query NoMemory = Unit {0}
