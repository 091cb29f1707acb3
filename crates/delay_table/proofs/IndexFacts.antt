-- The indexes of elements in a list to which one is added.
use Rattle.delay_table.proofs.Common.{◌≡◌, ℕ, ◌+◌, Bool, true, false, cond, List, [], ◌∷◌, ◌++◌, length, Option, Some, None, is_some, refl, sym, ap, ◌∙◌, subst, arith, ⊎_elim, position, list_any}
use Rattle.delay_table.proofs.{Common.{position_from, option_or, cases_Bool, NumberedGroup, same_numbered}, NumberedFacts.{numbered-equal, numbered-true}}
use Rattle.std.proofs.lemmas.Iterator.Adapters.{position_from-zero}

module _ {X : Type 0} (test : X → Bool) where
  any-from : (i : ℕ) (xs : List X) → is_some (position_from test i xs) ≡ list_any test xs
  any-from i [] = refl
  any-from i (x ∷ xs) = grind (arith, cases_Bool, any-from (i + 1) xs)

  -- it has a index where one passes
  pub any-position : (xs : List X) → is_some (position test xs) ≡ list_any test xs
  any-position xs = ap is_some (position_from-zero test xs) ∙ any-from 0 xs

  push-from : (i : ℕ) (xs : List X) (y : X) (n : ℕ) → n ≡ i + length xs → position_from test i (xs ++ y ∷ []) ≡ option_or (position_from test i xs) (cond (test y) (Some n) None)
  push-from i [] y n e = ap (λ k. cond (test y) (Some k) None) (omega arith)
  push-from i (x ∷ xs) y n e = grind (arith, cases_Bool, push-from (i + 1) xs y n (omega arith))

  -- one more comes last
  pub position-push : (xs : List X) (y : X) → position test (xs ++ y ∷ []) ≡ option_or (position test xs) (cond (test y) (Some (length xs)) None)
  position-push xs y = grind (arith, position_from-zero, push-from)

no-index : (o : Option ℕ) (b : Bool) → is_some o ≡ b → b ≡ false → o ≡ None
no-index o b e f = grind arith

or-none : (o : Option ℕ) → option_or o None ≡ o
or-none o = grind arith

-- each group has its index after a new one was added
pub indexes-push : (groups : List NumberedGroup) (group : NumberedGroup) (old new : NumberedGroup → Option ℕ) → list_any (same_numbered group) groups ≡ false
    → ((g : NumberedGroup) → old g ≡ position (same_numbered g) groups) → ((g : NumberedGroup) → new g ≡ cond (same_numbered group g) (Some (length groups)) (old g))
    → (more : List NumberedGroup) → more ≡ groups ++ group ∷ [] → (g : NumberedGroup) → new g ≡ position (same_numbered g) more
indexes-push groups group old new fresh were are more last g =
    let n = length groups in
    let test = same_numbered g in
    let here = position test groups in
    let after : position test more ≡ option_or here (cond (test group) (Some n) None) = ap (position test) last ∙ position-push test groups group in
    ⊎_elim (λ (t : same_numbered group g ≡ true).
    let e = numbered-equal group g t in
    let none = no-index here _ (any-position test groups) (subst (λ (x : NumberedGroup). list_any (same_numbered x) groups ≡ false) e fresh) in
    let same = numbered-true g group (sym e) in
    are g
    ∙ ap (λ b. cond b (Some n) (old g)) t
    ∙ sym (after ∙ ap (λ o. option_or o (cond (test group) (Some n) None)) none ∙ ap (λ b. cond b (Some n) None) same))
    (λ (f : same_numbered group g ≡ false).
    let other : test group ≡ false = grind (arith, numbered-true, numbered-equal, cases_Bool) in
    are g
    ∙ ap (λ b. cond b (Some n) (old g)) f
    ∙ were g
    ∙ sym (after ∙ ap (λ b. option_or here (cond b (Some n) None)) other ∙ or-none here))
    (cases_Bool (same_numbered group g))
