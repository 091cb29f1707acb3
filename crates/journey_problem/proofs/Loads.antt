-- What a loaded file gives.
use Rattle.journey_problem.proofs.Common.{◌≡◌, ℕ, List, Option, Some, Err, Bool, true, arith, ap, IfSome, ◌==◌, if◌then◌else◌, Input, Read, bytes_of, bytes_present}
use Rattle.std.proofs.lemmas.Bool.Decides.{nat_tests}
use Rattle.journey_model.specs.Faults.{input_number}

pub if_some_any : {A : Type 0} (o : Option A) (P : A → Type 0) → ((a : A) → P a) → IfSome o P
if_some_any o P f = grind arith

same_number : (n : ℕ) → (n == n) ≡ true
same_number n = grind (arith, nat_tests)

-- a file that cannot be read
pub bytes_of-unread : (most : ℕ) (file : Input) (bytes : Option (List ℕ)) → bytes_of most file (Some file) bytes ≡ Err (Read file)
bytes_of-unread most file bytes = ap (λ (b : Bool). if b then Err (Read file) else bytes_present most file bytes) (same_number (input_number file))
