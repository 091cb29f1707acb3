-- Days in their order.
use Rattle.std.specs.Prelude.{ℕ, zero, suc, ◌+◌, ℤ, pos, ◌+ℤ◌, ◌-ℤ◌, int_le, unsigned_abs, List, [], ◌∷◌, ◌++◌, if◌then◌else◌}

-- n days from a first one on
unfoldable pub days_from : ℤ → ℕ → List ℤ
days_from first zero = []
days_from first (suc n) = days_from first n ++ (first +ℤ pos n) ∷ []

-- how many days there are from a first to a last one
abbrev pub day_count : ℤ → ℤ → ℕ
day_count first last = if int_le first last then unsigned_abs (last -ℤ first) + 1 else 0

-- the days from a first to a last one, both included
abbrev pub days_between : ℤ → ℤ → List ℤ
days_between first last = days_from first (day_count first last)
