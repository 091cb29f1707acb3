-- That the rides of a graph rise is shown in one way at most.
use Rattle.std.proofs.{Common.{arith, inl, inr, ap}, Props.props}
use Rattle.std.specs.{Coded.le_prop, Prelude.{◌≡◌, ℕ, ◌<◌, ◌⊎◌, List}}
use Rattle.plan_graph.specs.{declared.Ride.Ride, Unfold.HasRisingRides}

-- one pair of numbers comes before another
lex_prop : (a b c d : ℕ) → IsProp ((a < b) ⊎ ((a ≡ b) × (c < d)))
lex_prop a b c d (inl x) (inl y) = ap inl (le_prop x y)
lex_prop a b c d (inl x) (inr y) = absurd (omega (arith, x, y.0))
lex_prop a b c d (inr x) (inl y) = absurd (omega (arith, y, x.0))
lex_prop a b c d (inr x) (inr y) =
    let same : IsProp ((a ≡ b) × (c < d)) = Prim.hlevel props in
    ap inr (same x y)

pub HasRisingRides-prop : (rides : List Ride) → IsProp (HasRisingRides rides)
HasRisingRides-prop rides = Prim.hlevel (props, lex_prop)
