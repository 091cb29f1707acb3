-- Where connections are found.
use Rattle.printed_rows.proofs.Common.{◌≡◌, ℕ, suc, ◌+◌, ◌<◌, Bool, true, List, [], ◌∷◌, length, Option, Some, None, arith, sym, refl, inl, inr, ◌∙◌, ap, ◌==◌, ◌&&◌, slice_index_or, IfSome}
use Rattle.printed_rows.proofs.Common.{IfNone, option_map, position_from, cases_Bool, nat_tests, Connection, NetworkModel, IsValid, count, no_connection, run_of, step_of, position_found}
use Rattle.printed_rows.proofs.Common.{position_none, false_if, connection_of}
use Rattle.plan_model.specs.{declared.model.ConnectionId.ConnectionId, Search.connection_at}
use Rattle.plan_model.proofs.Searches.{connection_is}

-- where an index was found, the test holds
found_holds : {X : Type 0} (t : X → Bool) (xs : List X) (from k : ℕ) (d : X) → position_from t from xs ≡ Some k → (j : ℕ) × (k ≡ from + j) × (j < length xs) × (t (slice_index_or xs j d) ≡ true)
found_holds t [] from k d is = absurd (cc)
found_holds t (x ∷ xs) from k d is = elim (cases_Bool (t x)) [
  | inl holds ↦ grind arith
  | inr fails ↦
      let rest = found_holds t xs (from + 1) k d (rw fails at is) in
      (suc rest.0, omega (arith, rest.1), omega (arith, rest.2), rest.3)
]

-- connections rise, so a run and step are at one index
abbrev is_at : ℕ → ℕ → Connection → Bool
is_at run step c = (c.run.0 == run) && (c.step == step)

at_both : (run step : ℕ) (c : Connection) → is_at run step c ≡ true → (c.run.0 ≡ run) × (c.step ≡ step)
at_both run step c is = ((grind (arith, nat_tests)), (grind (arith, nat_tests)))

both_at : (run step : ℕ) (c : Connection) → c.run.0 ≡ run → c.step ≡ step → is_at run step c ≡ true
both_at run step c a b = grind (arith, nat_tests)

pub connection_number : (n : NetworkModel) → IsValid n → (run step : ℕ) (found : Option ConnectionId)
    → IfSome found (λ id. (id.0 < count n) × (run_of n id.0 ≡ run) × (step_of n id.0 ≡ step))
    → IfNone found ((i : ℕ) → i < count n → run_of n i ≡ run → step_of n i ≡ step → ⊥) → option_map (λ id. id.0) found ≡ connection_of n run step
connection_number n valid run step None there none =
    sym (position_none (is_at run step) n.connections 0 no_connection (λ k within. false_if (is_at run step (connection_at n.connections k)) (λ is.
    grind (arith, connection_is))))
connection_number n valid run step (Some id) there none =
    sym (ap (λ (k : ℕ). Some k) (let e : 0 + id.0 ≡ id.0 = omega arith in e)) ∙ sym (position_found (is_at run step) n.connections 0 id.0 no_connection
    (λ k less. false_if (is_at run step (connection_at n.connections k)) (λ is.
    let both = at_both run step (connection_at n.connections k) is in
    earlier k less (ap (λ (c : Connection). c.run.0) (sym (connection_is n k)) ∙ both.0) (ap (λ (c : Connection). c.step) (sym (connection_is n k)) ∙ both.1)))
    there.0
    (both_at run step (connection_at n.connections id.0) (ap (λ (c : Connection). c.run.0) (connection_is n id.0) ∙ there.1) (ap (λ (c : Connection). c.step) (connection_is n id.0) ∙ there.2)))
  where
    earlier : (k : ℕ) → k < id.0 → run_of n k ≡ run → step_of n k ≡ step → ⊥
    earlier k less a b = elim (valid.rising k id.0 less there.0) [ inl x ↦ omega (arith, x, a, there.1) | inr y ↦ omega (arith, y.1, b, there.2) ]

-- each connection is found by its run and step
pub connection_back : (n : NetworkModel) → IsValid n → (c : ℕ) → c < count n → connection_of n (run_of n c) (step_of n c) ≡ Some c
connection_back n valid c there = sym (connection_number n valid (run_of n c) (step_of n c) (Some (record { 0 = c })) (there, refl, refl) tt)

-- and one that is found has them
pub connection_holds : (n : NetworkModel) (run step c : ℕ) → connection_of n run step ≡ Some c → (c < count n) × (run_of n c ≡ run) × (step_of n c ≡ step)
connection_holds n run step c is =
    let found = found_holds (is_at run step) n.connections 0 c no_connection is in
    grind (arith, connection_is)
