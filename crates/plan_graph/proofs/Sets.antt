-- The keys of a set, with one key more.
use Rattle.plan_graph.proofs.Common.{◌≡◌, ◌⊎◌, List, [], ◌∷◌, Contains, arith, sym, refl, inl, inr, ◌∙◌, ap, Ordering, Less, Equal, Greater, IsTotalOrder, match_ordering, ordering_reverse}
use Rattle.plan_graph.proofs.Common.{IsStrictlySortedBy, All-contains, All-weaker, All-from_recursion, recursion_from_All, sorted_head, sorted_tail, CmpEqualImpliesEq, All-insert_key}
use Rattle.plan_graph.proofs.Common.{Contains-nil, Contains-head, Contains-tail, Contains-cons_cases, All-from_contains}
use Rattle.std.specs.BTreeSet.{insert_key}

module _ {K : Type 0} (cmp : K → K → Ordering) where
  pub Contains-insert_key : (ks : List K) (key x : K) → Contains ks x → Contains (insert_key cmp ks key) x
  Contains-insert_key [] key x has = absurd (Contains-nil x has)
  Contains-insert_key (k ∷ ks) key x has = by_order (cmp key k) (Contains-insert_key ks key x)
    where
      by_order : (o : Ordering) → (Contains ks x → Contains (insert_key cmp ks key) x) → Contains (match_ordering o (key ∷ k ∷ ks) (k ∷ ks) (k ∷ insert_key cmp ks key)) x
      by_order Less more = Contains-tail key (k ∷ ks) x has
      by_order Equal more = has
      by_order Greater more = elim (Contains-cons_cases k ks x has) [
        | inl is ↦ (0, omega arith, is)
        | inr there ↦ Contains-tail k (insert_key cmp ks key) x (more there)
      ]

  pub Contains-insert_key_cases : (ks : List K) (key x : K) → Contains (insert_key cmp ks key) x → Contains ks x ⊎ (key ≡ x)
  Contains-insert_key_cases ks key x =
      let kept = λ (k : K). Contains ks k ⊎ (key ≡ k) in
      All-contains kept (insert_key cmp ks key) x (All-insert_key cmp key kept ks (All-from_contains kept ks (λ k has. inl has)) (inr refl))

  pub Contains-inserted_key : CmpEqualImpliesEq cmp → (ks : List K) (key : K) → Contains (insert_key cmp ks key) key
  Contains-inserted_key exact [] key = Contains-head key []
  Contains-inserted_key exact (k ∷ ks) key = by_order (cmp key k) refl (Contains-inserted_key exact ks key)
    where
      by_order : (o : Ordering) → cmp key k ≡ o → Contains (insert_key cmp ks key) key → Contains (match_ordering o (key ∷ k ∷ ks) (k ∷ ks) (k ∷ insert_key cmp ks key)) key
      by_order Less is more = Contains-head key (k ∷ ks)
      by_order Equal is more = (0, omega arith, sym (exact key k is))
      by_order Greater is more = Contains-tail k (insert_key cmp ks key) key more

-- sorted keys stay so
pub IsStrictlySortedBy-insert_key : {K : Type 0} {cmp : K → K → Ordering} → IsTotalOrder cmp → (ks : List K) (key : K) → IsStrictlySortedBy cmp ks → IsStrictlySortedBy cmp (insert_key cmp ks key)
unfolding IsStrictlySortedBy
IsStrictlySortedBy-insert_key order [] key sorted = (tt, tt)
IsStrictlySortedBy-insert_key {K} {cmp} order (k ∷ ks) key sorted = by_order (cmp key k) refl (IsStrictlySortedBy-insert_key order ks key (sorted_tail cmp k ks sorted))
  where
    by_order : (o : Ordering) → cmp key k ≡ o → IsStrictlySortedBy cmp (insert_key cmp ks key) → IsStrictlySortedBy cmp (match_ordering o (key ∷ k ∷ ks) (k ∷ ks) (k ∷ insert_key cmp ks key))
    by_order Less is more = (
      (
        is,
        recursion_from_All (λ y. cmp key y ≡ Less) ks (All-weaker (λ y. cmp k y ≡ Less) (λ y. cmp key y ≡ Less) (λ y less. order.trans key k y is less) ks
            (All-from_recursion (λ y. cmp k y ≡ Less) ks (sorted_head cmp k ks sorted))),
      ),
      sorted,
    )
    by_order Equal is more = sorted
    by_order Greater is more = (
      recursion_from_All (λ y. cmp k y ≡ Less) (insert_key cmp ks key)
          (All-insert_key cmp key (λ y. cmp k y ≡ Less) ks (All-from_recursion (λ y. cmp k y ≡ Less) ks (sorted_head cmp k ks sorted)) (order.antisymm k key ∙ ap ordering_reverse is)),
      more,
    )
