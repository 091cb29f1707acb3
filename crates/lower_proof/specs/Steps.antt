-- The least of values that may be there.
use Rattle.std.specs.Prelude.{◌≡◌, ℕ, ◌<◌, ◌≤◌, ◌^◌, List, Option, Some, None, min, slice_index_or}
use Rattle.plan_model.specs.{declared.model.Query.Query, Network.{NetworkModel, run_of}}
use Rattle.lower_proof.specs.Certificates.{bound_of, IsLeastOf, IsVia}

-- the lesser of two values, where they are there
abbrev pub lesser : Option ℕ → Option ℕ → Option ℕ
lesser None b = b
lesser (Some a) None = Some a
lesser (Some a) (Some b) = Some (min a b)

-- a value is at most another, where that is there
abbrev pub KeepsTo : Option ℕ → Option ℕ → Type 0
KeepsTo own None = Unit {0}
KeepsTo None (Some v) = ⊥
KeepsTo (Some w) (Some v) = w ≤ v

-- the least value of leaving a run, as far as it is known
abbrev pub exit_of : List (Option ℕ) → ℕ → Option ℕ
exit_of exits run = slice_index_or exits run None

-- the least value of leaving a run, with a connection as one exit more
pub record IsBestExit (network : NetworkModel) (query : Query) (values exits : List (Option ℕ)) (c : ℕ) (best : Option ℕ) : Type 0 where
  pub via : Option ℕ
  pub least : IsLeastOf (IsVia network query values c) via
  pub lesser_is : best ≡ lesser (exit_of exits (run_of network c)) via

-- the first m values fit 64 bits
abbrev pub AllFit : ℕ → List (Option ℕ) → Type 0
AllFit m values = (c v : ℕ) → c < m → bound_of values c ≡ Some v → v < 2 ^ 64
