-- Exceptions by the numbers of services.
use Rattle.std.specs.{Prelude.{ℕ, ℤ, ◌==◌, ◌&&◌, Bool, false, List, Option, Some, None}, List.list_any, Ordering.int_eq}
use Rattle.service_days.specs.declared.exceptions.Exception.{Exception}
use mathlib.Core.Bool.{beq}

abbrev pub same : Exception → Exception → Bool
same a b = (a.service == b.service) && (int_eq a.day b.day && beq a.adds b.adds)

-- whether this is one of them
abbrev pub has : List Exception → Exception → Bool
has exceptions e = list_any (same e) exceptions

-- whether a day is added to the service of this number, or removed
abbrev pub has_at : List Exception → ℤ → Bool → Option ℕ → Bool
has_at exceptions day adds None = false
has_at exceptions day adds (Some service) = has exceptions (record { service = service; day = day; adds = adds })
