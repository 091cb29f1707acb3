-- A row by its fields.
use Rattle.journey_report.proofs.Common.{◌≡◌, ℕ, List, Result, Vec, subst, IfOk, Global, row_of_fields}
use Rattle.plan_model.specs.declared.list.NoMemory.{NoMemory}

pub row-of : {fields wanted : List (List ℕ)} (row : Result (Vec ℕ Global) NoMemory) → IfOk row (λ text. text.items ≡ row_of_fields fields)
    → fields ≡ wanted → IfOk row (λ text. text.items ≡ row_of_fields wanted)
row-of row made same = subst (λ (fields : List (List ℕ)). IfOk row (λ text. text.items ≡ row_of_fields fields)) same made
