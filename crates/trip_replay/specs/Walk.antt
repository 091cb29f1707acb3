-- The walk down a tree by the delays that come.
use Rattle.std.specs.Prelude.{◌≡◌, ℕ, ◌+◌, ◌≤◌, List, [], ◌∷◌, ◌++◌, length, ◌==◌, if◌then◌else◌, Result, Ok, Err}
use Rattle.plan_model.specs.{declared.model.Outcome.Outcome, Network.{NetworkModel, arr_of, outcomes}, Tree.{Tree, Done, Ride, Stuck, Kids, Nil, Kid}}
use Rattle.trip_replay.specs.declared.{Ridden.Ridden, Trace.Trace, ReplayFault.ReplayFault}
use Rattle.trip_replay.specs.declared.ReplayFault.TheVariants as fault

-- the ride from connection i to j with a delay
abbrev pub ride_with_delay : NetworkModel → ℕ → ℕ → ℕ → Ridden
ride_with_delay network i j delay = record {
  leg = record { enter = record { 0 = i }; exit = record { 0 = j } };
  delay = delay;
  arrival = record { 0 = arr_of network j + delay };
}

abbrev pub trace_of : List Ridden → ℕ → Trace
trace_of rides arrival = record { rides = rides; arrival = record { 0 = arrival } }

abbrev mutual
  -- down a tree, with these rides behind
  pub walk : NetworkModel → Tree → List ℕ → List Ridden → Result Trace ReplayFault
  walk network (Done x) [] behind = Ok (trace_of behind x)
  walk network (Done x) (delay ∷ delays) behind = Err (fault.TooMany (length behind))
  walk network (Stuck p x) delays behind = Err (fault.Stuck (record { 0 = p }) (record { 0 = x }))
  walk network (Ride i j kids) [] behind = Err (fault.TooFew (length behind))
  walk network (Ride i j kids) (delay ∷ delays) behind = walk_child network kids (outcomes network j) i j delay delays behind

  -- on at the child of the outcome with this delay
  pub walk_child : NetworkModel → Kids → List Outcome → ℕ → ℕ → ℕ → List ℕ → List Ridden → Result Trace ReplayFault
  walk_child network Nil row i j delay delays behind = Err (fault.NotADelay (length behind + 1))
  walk_child network (Kid w tree kids) [] i j delay delays behind = Err (fault.NotADelay (length behind + 1))
  walk_child network (Kid w tree kids) (o ∷ row) i j delay delays behind =
      if o.delay == delay
      then walk network tree delays (behind ++ ride_with_delay network i j delay ∷ [])
      else walk_child network kids row i j delay delays behind

-- there was no memory, or it is this
abbrev pub IsAnswer : Result Trace ReplayFault → Result Trace ReplayFault → Type 0
IsAnswer (Err fault.NoMemory) walked = Unit {0}
IsAnswer (Ok trace) walked = walked ≡ Ok trace
IsAnswer (Err e) walked = walked ≡ Err e

-- the traveller is not stuck, and arrives by the deadline
abbrev pub IsSafeAnswer : ℕ → Result Trace ReplayFault → Type 0
IsSafeAnswer deadline (Ok trace) = trace.arrival.0 ≤ deadline
IsSafeAnswer deadline (Err (fault.Stuck place moment)) = ⊥
IsSafeAnswer deadline (Err (fault.NotADelay ride)) = Unit {0}
IsSafeAnswer deadline (Err (fault.TooFew rides)) = Unit {0}
IsSafeAnswer deadline (Err (fault.TooMany rides)) = Unit {0}
IsSafeAnswer deadline (Err fault.NoMemory) = Unit {0}
