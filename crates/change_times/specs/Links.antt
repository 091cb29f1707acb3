-- The ways from some places into another.
use Rattle.std.specs.Prelude.{ℕ, zero, suc, ◌<◌, max, List, [], ◌∷◌, ◌++◌, slice_index_or, Option, None, Some, All}
use Rattle.plan_model.specs.declared.model.Way.{Way}

-- a way from a place, where it has seconds; it takes a second at least
abbrev pub link_from : ℕ → Option ℕ → List Way
link_from from None = []
link_from from (Some seconds) = record { from = record { 0 = from }; seconds = max 1 seconds } ∷ []

-- the ways from the places below n, by their seconds
unfoldable pub ways_below : (ℕ → Option ℕ) → ℕ → List Way
ways_below seconds zero = []
ways_below seconds (suc n) = ways_below seconds n ++ link_from n (seconds n)

-- the ways into a place
abbrev pub ways_at : List (List Way) → ℕ → List Way
ways_at links to = slice_index_or links to []

-- each comes from a place before this one
abbrev pub ComeBefore : List Way → ℕ → Type 0
ComeBefore ways from = All (λ way. way.from.0 < from) ways
