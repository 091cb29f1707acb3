-- The moments from which the times of runs count.
use Rattle.std.specs.Prelude.{ℕ, ℤ, pos, ◌+ℤ◌, ◌*ℤ◌}
use Rattle.plan_model.specs.Bounds.{seconds_per_day}
use Rattle.connections.specs.declared.origins.{ServiceDay.ServiceDay, Origin.Origin}

-- the start of a service day
abbrev pub origin_of_day : ServiceDay → Origin
origin_of_day day = record { day = day; shift = pos 0 }

-- this many seconds later, in seconds since 1970-01-01
abbrev pub moment_of : Origin → ℕ → ℤ
moment_of o seconds = ((pos seconds_per_day *ℤ o.day.number) +ℤ o.shift) +ℤ pos seconds
