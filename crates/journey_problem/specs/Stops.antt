-- The stops of a journey.
use Rattle.std.specs.Prelude.{ℕ, List, Option, None, Some}
use Rattle.journey_model.specs.declared.faults.Which.{Which}
use Rattle.journey_model.specs.declared.faults.Which.TheVariants as which

-- which stop is looked up first: the source; of a journey that has none, the target
abbrev pub first_which : Option (List ℕ) → Which
first_which None = which.To
first_which (Some from) = which.From
