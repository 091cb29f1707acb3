-- The values of a function in a list, and the first of the faults that hold, in the order in which they are listed.
use Rattle.std.specs.{Prelude.{ℕ, zero, suc, List, [], ◌∷◌, ◌++◌, Bool, false, ◌||◌, Option, None}, Option.option_or}

-- f at 0, 1 and on below n
unfoldable pub list_below : {A : Type 0} → (ℕ → A) → ℕ → List A
list_below f zero = []
list_below f (suc n) = list_below f n ++ f n ∷ []

-- the first that holds at 0, 1 and on below n
unfoldable pub first_below : {F : Type 0} → (ℕ → Option F) → ℕ → Option F
first_below f zero = None
first_below f (suc n) = option_or (first_below f n) (f n)

-- whether it holds somewhere below n
unfoldable pub any_below : (ℕ → Bool) → ℕ → Bool
any_below p zero = false
any_below p (suc n) = any_below p n || p n
