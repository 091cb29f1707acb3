-- What has a value at the end of a chain has one at each of its steps.
use Rattle.printed_rows.proofs.Common.{◌≡◌, Bool, true, false, Result, Ok, Err, refl, if◌then◌else◌}
use Rattle.plan_model.specs.Results.{and_then}

pub and_then-value : {A B E : Type 0} (r : Result A E) (next : A → Result B E) (b : B) → and_then r next ≡ Ok b → (a : A) × (r ≡ Ok a) × (next a ≡ Ok b)
and_then-value (Ok a) next b is = (a, refl, is)
and_then-value (Err fault) next b is = absurd (cc)

pub if-value : {A E : Type 0} (test : Bool) (r : Result A E) (fault : E) (a : A) → (if test then r else Err fault) ≡ Ok a → (test ≡ true) × (r ≡ Ok a)
if-value true r fault a is = (refl, is)
if-value false r fault a is = absurd (cc)

pub else-value : {A E : Type 0} (test : Bool) (r : Result A E) (fault : E) (a : A) → (if test then Err fault else r) ≡ Ok a → (test ≡ false) × (r ≡ Ok a)
else-value true r fault a is = absurd (cc)
else-value false r fault a is = (refl, is)
