-- What transfers say for changes and for links, and the greatest of it.
use Rattle.std.specs.Prelude.{ℕ, zero, suc, max, Option, None, Some, ◌==◌, ◌&&◌, List, [], ◌∷◌, slice_index_or, if◌then◌else◌}
use Rattle.change_times.specs.declared.{links.Walk.Walk, transfers.Transfer.Transfer}

-- the greater of two, where they are there
abbrev pub greater : Option ℕ → Option ℕ → Option ℕ
greater None b = b
greater (Some a) None = Some a
greater (Some a) (Some b) = Some (max a b)

-- the greatest of what is there at 0, 1 and on below n
unfoldable pub greatest_below : (ℕ → Option ℕ) → ℕ → Option ℕ
greatest_below f zero = None
greatest_below f (suc n) = greater (greatest_below f n) (f n)

-- the seconds of a walk to this place
abbrev pub walk_to : ℕ → Walk → Option ℕ
walk_to to walk = if walk.to == to then Some walk.seconds else None

-- the greatest seconds of the walks to this place
abbrev pub most_to : ℕ → List Walk → Option ℕ
most_to to [] = None
most_to to (walk ∷ walks) = greater (walk_to to walk) (most_to to walks)

-- the walks from a place
abbrev pub walks_of : List (List Walk) → ℕ → List Walk
walks_of walks from = slice_index_or walks from []

-- the seconds of a transfer from one place to another
abbrev pub seconds_between : (from to : ℕ) → Option Transfer → Option ℕ
seconds_between from to None = None
seconds_between from to (Some t) = if t.from == from && t.to == to then Some t.seconds else None

-- the same of one that leads to another place than its own
abbrev pub link_between : (from to : ℕ) → Option Transfer → Option ℕ
link_between from to None = None
link_between from to (Some t) = if t.from == t.to then None else seconds_between from to (Some t)
