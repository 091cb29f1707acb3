-- The order of legs.
use Rattle.plan_graph.proofs.Common.{◌≡◌, ℕ, ◌<◌, ◌⊎◌, arith, nat_cmp, Ordering, Less, Equal, common_steps, IsTotalOrder, on_total, then_total, ordering_then, nat_tests, CmpEqualImpliesEq, Leg}
use Rattle.plan_graph.proofs.Common.{Precedes, leg_cmp}
use Rattle.std.proofs.lemmas.Cmp.{nat_cmp_total}

pub nat_cmp-Less : (x y : ℕ) → nat_cmp x y ≡ Less → x < y
nat_cmp-Less x y is = grind (arith, nat_tests)

pub ordering_then-Less : (x y : Ordering) → ordering_then x y ≡ Less → (x ≡ Less) ⊎ ((x ≡ Equal) × (y ≡ Less))
ordering_then-Less x y is = grind arith

pub leg_cmp-total : IsTotalOrder leg_cmp
leg_cmp-total = then_total (on_total (λ (leg : Leg). leg.enter.0) nat_cmp_total) (on_total (λ (leg : Leg). leg.exit.0) nat_cmp_total)

-- legs that compare as equal are the same
pub leg_cmp-exact : CmpEqualImpliesEq leg_cmp
leg_cmp-exact a b is = grind (arith, common_steps, nat_tests)

pub leg_cmp-Less : (a b : Leg) → leg_cmp a b ≡ Less → Precedes a b
leg_cmp-Less a b is = grind (arith, common_steps, nat_tests)
