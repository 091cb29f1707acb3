-- There is one way alone for a network to be valid, so it is a fact that a type can have.
use Rattle.std.proofs.{Common.{◌≡◌, ℕ, ◌<◌, ◌⊎◌, arith, inl, inr, ap}, Props.props}
use Rattle.std.specs.Coded.{le_prop}
use Rattle.plan_model.specs.Network.{NetworkModel, IsValid}

-- at most one of the two holds, as of two positions in the order of runs and steps
⊎_less_prop : (a b c d : ℕ) → IsProp ((a < b) ⊎ ((a ≡ b) × (c < d)))
⊎_less_prop a b c d (inl x) (inl y) = ap inl (le_prop x y)
⊎_less_prop a b c d (inl x) (inr y) = absurd (omega (arith, x, y.0))
⊎_less_prop a b c d (inr x) (inl y) = absurd (omega (arith, y, x.0))
⊎_less_prop a b c d (inr x) (inr y) =
    let same : IsProp ((a ≡ b) × (c < d)) = Prim.hlevel props in
    ap inr (same x y)

pub IsValid-prop : (network : NetworkModel) → IsProp (IsValid network)
IsValid-prop network = Prim.hlevel (props, ⊎_less_prop)
