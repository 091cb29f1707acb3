-- What is known of a chain of results is known of its parts.
use Rattle.plan_model.proofs.Common.{◌≡◌, Option, Some, None, Result, Ok, Err, ap, arith}
use Rattle.plan_model.specs.Results.{and_then, require}
use Rattle.std.specs.Result.{result_err}

pub and_then-err : {A B E : Type 0} (r : Result A E) (fault : E) (next : A → Result B E) → r ≡ Err fault → and_then r next ≡ Err fault
and_then-err r fault next is = ap (λ z. and_then z next) is

-- where a chain has no fault, its first part is there, and the rest has none
pub result_err-require : {A B E : Type 0} (o : Option A) (fault : E) (next : A → Result B E) → result_err (require o fault next) ≡ None
    → (a : A) × (o ≡ Some a) × (result_err (next a) ≡ None)
result_err-require o fault next none = grind arith

-- where it has a value, its first part is there, and the rest has that value
pub require-ok : {A B E : Type 0} (o : Option A) (fault : E) (next : A → Result B E) (b : B) → require o fault next ≡ Ok b
    → (a : A) × (o ≡ Some a) × (next a ≡ Ok b)
require-ok o fault next b is = grind arith

-- of its value is so what is so of each value of the rest
pub require-each : {A B E : Type 0} (P : B → Type 0) (o : Option A) (fault : E) (next : A → Result B E)
    → ((a : A) → o ≡ Some a → (b : B) → next a ≡ Ok b → P b) → (b : B) → require o fault next ≡ Ok b → P b
require-each P o fault next each b is = grind arith
