-- One set in one order has one list.
use Rattle.journey_problem.proofs.Common.{◌≡◌, ℕ, zero, suc, ◌<◌, ◌≤◌, sym, ap, ◌∙◌, subst, arith, ⊎_elim, cases_lt}

-- f at 0, 1 and on below n goes through the set in a strict order
pub record Enumerates {A : Type 0} (S : A → Type 0) (L : A → A → Type 0) (f : ℕ → A) (n : ℕ) : Type 0 where
  pub inside : (k : ℕ) → k < n → S (f k)
  pub rising : (k l : ℕ) → k < l → l < n → L (f k) (f l)
  pub all : (x : A) → S x → (k : ℕ) × (k < n) × (f k ≡ x)

module _ {A : Type 0} (S : A → Type 0) (L : A → A → Type 0) (strict : (a b : A) → L a b → L b a → ⊥) where
  never : (a b : A) → a ≡ b → L a b → ⊥
  never a b e h = strict a b h (subst (λ (x : A). L x a) e (subst (L a) (sym e) h))

  -- the element of f at k is not earlier in g
  not_earlier : (f g : ℕ → A) (n m k : ℕ) → Enumerates S L f n → k < n → ((j : ℕ) → j < k → f j ≡ g j) → (l : ℕ) → g l ≡ f k → k ≤ l
  not_earlier f g n m k a h before l e =
      ⊎_elim (λ (less : l < k). absurd (never (f l) (f k) (before l less ∙ e) (a.rising l k less h))) (λ (ge : k ≤ l). ge) (cases_lt l k)

  at_one : (f g : ℕ → A) (n m k : ℕ) → Enumerates S L f n → Enumerates S L g m → k < n → ((j : ℕ) → j < k → f j ≡ g j) → (k < m) × (f k ≡ g k)
  at_one f g n m k a b h before =
      let w = b.all (f k) (a.inside k h) in
      let later : k ≤ w.0 = not_earlier f g n m k a h before w.0 w.2 in
      let inside : k < m = omega (arith, w.1, later) in
      let v = a.all (g k) (b.inside k inside) in
      let later' : k ≤ v.0 = not_earlier g f m n k b inside (λ j l. sym (before j l)) v.0 v.2 in (
        inside,
        ⊎_elim (λ (more : k < w.0).
            ⊎_elim (λ (more' : k < v.0). absurd (strict (f k) (g k) (subst (L (f k)) v.2 (a.rising k v.0 more' v.1)) (subst (L (g k)) w.2 (b.rising k w.0 more w.1))))
            (λ (le' : v.0 ≤ k). let e : k ≡ v.0 = omega arith in ap f e ∙ v.2) (cases_lt k v.0))
            (λ (le : w.0 ≤ k). let e : w.0 ≡ k = omega arith in sym w.2 ∙ ap g e) (cases_lt k w.0),
      )

  below : (f g : ℕ → A) (n m : ℕ) → Enumerates S L f n → Enumerates S L g m → (b : ℕ) → (j : ℕ) → j < b → j < n → (j < m) × (f j ≡ g j)
  below f g n m a b zero j h inside = absurd (omega arith)
  below f g n m a b (suc c) j h inside = at_one f g n m j a b inside (λ i l. (below f g n m a b c i (omega arith) (omega arith)).1)

  pub agree : (f g : ℕ → A) (n m : ℕ) → Enumerates S L f n → Enumerates S L g m → (j : ℕ) → j < n → (j < m) × (f j ≡ g j)
  agree f g n m a b j h = below f g n m a b (suc j) j (omega arith) h

  pub same_size : (f g : ℕ → A) (n m : ℕ) → Enumerates S L f n → Enumerates S L g m → n ≡ m
  same_size f g n m a b = grind (arith, agree, cases_lt)
