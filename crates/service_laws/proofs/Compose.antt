-- A network in another, and that in a third.
use Rattle.service_laws.proofs.Common.{◌≡◌, ℕ, ◌+◌, ◌≤◌, arith, List, [], ◌∷◌, ◌∙◌, All-contains, Contains, Outcome, NetworkModel, arr_of, outcomes, IsFound, Embeds, EmbedsBy, EmbedsAlike}
use Rattle.service_laws.proofs.Common.{EmbedsNoLater, AreBeside}

module _ (a b c : NetworkModel) (f g p q : ℕ → ℕ) where
  abbrev image : ℕ → ℕ
  image i = g (f i)

  abbrev place : ℕ → ℕ
  place x = q (p x)

  found_twice : IsFound a b f p → IsFound b c g q → IsFound a c image place
  found_twice one two = grind arith

  pub embeds_twice : Embeds a b f p → Embeds b c g q → Embeds a c image place
  embeds_twice one two = record {
    found = found_twice one.found two.found;
    arrives = λ j h k d within.
        let (middle, has, less) = two.arrives (f j) (one.found.there j h) k d within in
        let (last, there, least) = All-contains (λ o. (other : Outcome) × Contains (outcomes a j) other × (arr_of b (f j) + o.delay ≤ arr_of a j + other.delay))
        (outcomes b (f j)) middle (one.arrives j h) has in
        (last, there, omega (arith, less, least));
  }

  module _ (R : ℕ → ℕ → Type 0) (on : (x y z : ℕ) → R x y → R y z → R x z) where
    beside_twice : (row middle last : List Outcome) (x y z : ℕ) → AreBeside R row x middle y → AreBeside R middle y last z → AreBeside R row x last z
    beside_twice [] [] [] x y z one two = tt
    beside_twice (o ∷ row) (m ∷ middle) (l ∷ last) x y z one two = grind (arith, beside_twice row middle last x y z one.2 two.2)
    beside_twice [] (m ∷ middle) last x y z one two = absurd one
    beside_twice (o ∷ row) [] last x y z one two = absurd one
    beside_twice _ _ _ x y z one two = absurd two

    by_twice : EmbedsBy R a b f p → EmbedsBy R b c g q → EmbedsBy R a c image place
    by_twice one two = grind (arith, found_twice, beside_twice)

  pub no_later_twice : EmbedsNoLater a b f p → EmbedsNoLater b c g q → EmbedsNoLater a c image place
  no_later_twice = by_twice (λ x y. x ≤ y) (λ x y z less least. omega (arith, less, least))

  pub alike_twice : EmbedsAlike a b f p → EmbedsAlike b c g q → EmbedsAlike a c image place
  alike_twice = by_twice (λ x y. x ≡ y) (λ x y z same again. same ∙ again)
