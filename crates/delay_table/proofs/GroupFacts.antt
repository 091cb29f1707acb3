-- Groups that are the same, and where a group is among others.
use Rattle.delay_table.proofs.Common.{◌≡◌, ℕ, ◌+◌, ◌<◌, Bool, true, false, List, [], ◌∷◌, ◌++◌, length, Option, Some, None, refl, sym, ◌∙◌, subst, arith, inl, inr, length-append, eqb-true}
use Rattle.delay_table.proofs.Common.{eq-eqb, cases_order, and_from, and_parts, false_from_ne_true, get_or_append_left, get_or_push, absent_by, found_by, index_by-none, index_by-some, Group}
use Rattle.delay_table.proofs.Common.{same_if, same_group, of_class, group_in, group_index, AreApart}
use Rattle.std.proofs.lemmas.Slice.Eq.{bytes_eq-Decides}

pub same_if-equal : {A : Type 0} (same : A → A → Bool) → ((a b : A) → same a b ≡ true → a ≡ b) → (x y : Option A) → same_if same x y ≡ true → x ≡ y
same_if-equal same decides x y h = grind arith

pub same_if-self : {A : Type 0} (same : A → A → Bool) → ((a : A) → same a a ≡ true) → (x : Option A) → same_if same x x ≡ true
same_if-self same self x = grind arith

pub same-equal : (a b : Group) → same_group a b ≡ true → a ≡ b
unfolding same_group
same-equal a b h = grind (arith, and_parts, same_if-equal, eqb-true, bytes_eq-Decides)

pub same-self : (a : Group) → same_group a a ≡ true
unfolding same_group
same-self a = grind (arith, eq-eqb, and_from, same_if-self, bytes_eq-Decides)

pub same-true : (a b : Group) → a ≡ b → same_group a b ≡ true
same-true a b e = subst (λ (x : Group). same_group a x ≡ true) e (same-self a)

pub same-false : (a b : Group) → (a ≡ b → ⊥) → same_group a b ≡ false
same-false a b h = false_from_ne_true (same_group a b) (λ t. h (same-equal a b t))

pub false-same : (a b : Group) → same_group a b ≡ false → a ≡ b → ⊥
false-same a b f e = let t = same-true a b e in absurd (cc)

-- what is at the index of a group
pub group-here : (group : Group) (groups : List Group) (k : ℕ) → group_index group groups ≡ Some k → (k < length groups) × (group_in groups k ≡ group)
unfolding group_index
group-here group groups k h =
    let w = index_by-some (λ k. same_group (group_in groups k) group) (length groups) k h in (w.0, same-equal (group_in groups k) group w.1)

-- a group that has no index is nowhere
pub nowhere : (group : Group) (groups : List Group) → group_index group groups ≡ None → (k : ℕ) → k < length groups → group_in groups k ≡ group → ⊥
unfolding group_index
nowhere group groups h k l = false-same (group_in groups k) group (index_by-none (λ k. same_group (group_in groups k) group) (length groups) h k l)

pub none-index : (group : Group) (groups : List Group) → ((k : ℕ) → k < length groups → group_in groups k ≡ group → ⊥) → group_index group groups ≡ None
unfolding group_index
none-index group groups h = absent_by (λ k. same_group (group_in groups k) group) (length groups) (λ k l. same-false (group_in groups k) group (h k l))

-- the first index at which it is
pub index-first : (group : Group) (groups : List Group) (k : ℕ) → k < length groups → group_in groups k ≡ group → ((j : ℕ) → j < k → group_in groups j ≡ group → ⊥) → group_index group groups ≡ Some k
unfolding group_index
index-first group groups k l e first =
    found_by (λ k. same_group (group_in groups k) group) (length groups) k l (same-true (group_in groups k) group e)
    (λ j less. same-false (group_in groups j) group (first j less))

-- groups that are at two indexes differ
pub apart-ne : (groups : List Group) → AreApart groups → (j k : ℕ) → j < length groups → k < length groups → (j ≡ k → ⊥) → group_in groups j ≡ group_in groups k → ⊥
apart-ne groups apart j k inside within ne e = elim (cases_order j k) [
  | inl same ↦ ne same
  | inr (inl less) ↦ false-same (group_in groups j) (group_in groups k) (apart j k less within) e
  | inr (inr less) ↦ false-same (group_in groups k) (group_in groups j) (apart k j less inside) (sym e)
]

-- and each has its own index
pub index-at : (groups : List Group) → AreApart groups → (k : ℕ) → k < length groups → group_index (group_in groups k) groups ≡ Some k
index-at groups apart k l =
    index-first (group_in groups k) groups k l refl (λ j less. false-same (group_in groups j) (group_in groups k) (apart j k less l))

pub push-none : (group : Group) (groups : List Group) (x : Group) → group_index group (groups ++ x ∷ []) ≡ None → (group_index group groups ≡ None) × (x ≡ group → ⊥)
push-none group groups x h =
    let n = length groups in
    let size : length (groups ++ x ∷ []) ≡ n + 1 = length-append groups (x ∷ []) in (
      none-index group groups (λ k l e. nowhere group (groups ++ x ∷ []) h k (omega arith) (get_or_append_left groups (x ∷ []) (of_class None) k l ∙ e)),
      λ e. nowhere group (groups ++ x ∷ []) h n (omega arith) (get_or_push groups x (of_class None) n refl ∙ e),
    )
