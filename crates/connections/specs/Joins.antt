-- Lists joined one after the other, and numbers added up.
use Rattle.std.specs.Prelude.{ℕ, zero, suc, ◌+◌, Bool, List, [], ◌∷◌, ◌++◌, if◌then◌else◌}

-- the lists of a function at 0, 1 and on below n
unfoldable pub join_below : {A : Type 0} → (ℕ → List A) → ℕ → List A
join_below f zero = []
join_below f (suc n) = join_below f n ++ f n

-- one element, or none
abbrev pub only_if : {A : Type 0} → Bool → A → List A
only_if b a = if b then a ∷ [] else []

-- the numbers of a function at 0, 1 and on below n, added up
unfoldable pub sum_below : (ℕ → ℕ) → ℕ → ℕ
sum_below f zero = 0
sum_below f (suc n) = sum_below f n + f n
