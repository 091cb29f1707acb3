-- Two choices that take the same legs from a start leg on fix the same tree.
use Rattle.plan_graph.proofs.{Common.{◌≡◌, ◌≢◌, ℕ, Option, Some, Contains, sym, subst, refl, ◌∙◌, Leg, Outcome, NetworkModel, end_of, arrival_of, outcomes_of, unfold_from}, Tables.one_found}
use Rattle.plan_model.proofs.SameTree.{unfold_from-same}

-- after a leg that arrives at a moment both choose one leg, of which Q holds
pub record IsSameNext (choice other : Leg → ℕ → Option Leg) (Q : Leg → Type 0) (leg : Leg) (x : ℕ) : Type 0 where
  pub next : Leg
  pub is_chosen : choice leg x ≡ Some next
  pub is_other : other leg x ≡ Some next
  pub holds : Q next

module _ (n : NetworkModel) (target : ℕ) (choice other : Leg → ℕ → Option Leg) (Q : Leg → Type 0) where
  -- who has ridden a leg of which Q holds comes at an arrival of an outcome
  record IsComing (leg : Leg) (x : ℕ) : Type 0 where
    holds : Q leg
    o : Outcome
    there : Contains (outcomes_of n leg) o
    at : x ≡ arrival_of n leg o.delay

  module _ (each : (leg : Leg) → Q leg → end_of n leg ≢ target → (o : Outcome) → Contains (outcomes_of n leg) o → IsSameNext choice other Q leg (arrival_of n leg o.delay)) where
    next_at : (leg : Leg) (x : ℕ) → IsComing leg x → end_of n leg ≢ target → IsSameNext choice other Q leg x
    next_at leg x coming away = subst (λ (y : ℕ). IsSameNext choice other Q leg y) (sym coming.at) (each leg coming.holds away coming.o coming.there)

    pub unfold_from-together : (start : Leg) → Q start → (p x : ℕ) → unfold_from n target choice (Some start) p x ≡ unfold_from n target other (Some start) p x
    unfold_from-together start holds p x = unfold_from-same n target choice other IsComing
        (λ leg y coming away. let s = next_at leg y coming away in s.is_chosen ∙ sym s.is_other)
        (λ leg y next coming away is o there.
        let s = next_at leg y coming away in
        record { holds = subst Q (one_found (choice leg y) s.next next s.is_chosen is) s.holds; o = o; there = there; at = refl })
        (Some start) p x
        (λ leg is o there. record { holds = subst Q (one_found (Some start) start leg refl is) holds; o = o; there = there; at = refl })
