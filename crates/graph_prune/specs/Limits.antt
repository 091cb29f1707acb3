-- Rows by the limits of their legs.
use Rattle.std.specs.Prelude.{ℕ, Bool, false, List, [], ◌∷◌, Option, Some, None, ◌==◌, if◌then◌else◌}
use Rattle.plan_model.specs.{declared.model.Leg.Leg, Network.NetworkModel, Ways.limit_of, Unfold.end_of}
use Rattle.plan_graph.specs.{declared.{GraphRow.GraphRow, Ride.Ride}, Walked.row_by}

-- the moment is that of the row before
abbrev pub is_last : Option ℕ → ℕ → Bool
is_last None by = false
is_last (Some moment) by = moment == by

-- with the row of a leg by its limit, if the row before is by another moment
abbrev pub with_limit : Option ℕ → Leg → (Option ℕ → List GraphRow) → Option ℕ → List GraphRow
with_limit None leg more last = more last
with_limit (Some limit) leg more last = if is_last last limit then more last else row_by limit leg ∷ more (Some limit)

-- at a place, the rows by their legs' limits, each limit once
abbrev pub by_limits : NetworkModel → ℕ → List GraphRow → Option ℕ → List GraphRow
by_limits network place [] last = []
by_limits network place (row ∷ rows) last = with_limit (limit_of network place row.leg) row.leg (by_limits network place rows) last

-- the ride with its rows by their legs' limits
abbrev pub ride_by_limits : NetworkModel → Ride → Ride
ride_by_limits network r = record { leg = r.leg; after = by_limits network (end_of network r.leg) r.after None }
