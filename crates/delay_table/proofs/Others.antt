-- The groups that name a route or an hour, one more at a time.
use Rattle.delay_table.proofs.Common.{cases_Bool, ◌≡◌, ℕ, zero, suc, ◌+◌, ◌<◌, Bool, true, false, List, [], ◌∷◌, ◌++◌, length, map, None, if◌then◌else◌, refl, sym, ap, ◌∙◌, subst, arith, All}
use Rattle.delay_table.proofs.Common.{append_assoc, append-nil, add-one, map-append, All-nil, All-cons, All-append, Outcome, Group, group_in, is_plain, of_class, group_index, if_other, others}
use Rattle.delay_table.proofs.{Common.AreApart, GroupFacts.{apart-ne, none-index}}

pub others-zero : (groups : List Group) → others groups 0 ≡ []
unfolding others
others-zero groups = refl

pub others-next : (groups : List Group) (n : ℕ) → others groups (n + 1) ≡ others groups n ++ if_other (group_in groups n) (group_in groups n)
unfolding others
others-next groups n = ap (others groups) (add-one n)

pub others-plain : (groups : List Group) (n : ℕ) → is_plain (group_in groups n) ≡ true → others groups (n + 1) ≡ others groups n
others-plain groups n h = grind (arith, others-next, append-nil)

pub others-other : (groups : List Group) (n : ℕ) → is_plain (group_in groups n) ≡ false → others groups (n + 1) ≡ others groups n ++ group_in groups n ∷ []
others-other groups n h = others-next groups n ∙ ap (λ b. others groups n ++ (if b then [] else group_in groups n ∷ [])) h

mapped-if : (rows : Group → List Outcome) (b : Bool) (g : Group) → map rows (if b then [] else g ∷ []) ≡ (if b then [] else rows g ∷ [])
mapped-if rows b g = grind (arith, cases_Bool b)

pub other-rows-next : (rows : Group → List Outcome) (groups : List Group) (n : ℕ) (init old new : List (List Outcome)) → old ≡ init ++ map rows (others groups n)
    → new ≡ old ++ if_other (group_in groups n) (rows (group_in groups n)) → new ≡ init ++ map rows (others groups (n + 1))
other-rows-next rows groups n init old new f g = grind (arith, append_assoc, others-next, map-append, mapped-if)

-- each of the others is one of the groups
pub record IsFrom (groups : List Group) (n : ℕ) (x : Group) : Type 0 where
  pub index : ℕ
  pub inside : index < n
  pub is : x ≡ group_in groups index
  pub other : is_plain x ≡ false

if_from : (groups : List Group) (n : ℕ) (b : Bool) → is_plain (group_in groups n) ≡ b → All (IsFrom groups (n + 1)) (if b then [] else group_in groups n ∷ [])
if_from groups n b e = grind (arith, All-nil, All-cons)

pub others-from : (groups : List Group) (n : ℕ) → All (IsFrom groups n) (others groups n)
others-from groups zero = subst (All (IsFrom groups 0)) (sym (others-zero groups)) (All-nil (IsFrom groups 0))
others-from groups (suc n) =
    let wider : All (IsFrom groups (n + 1)) (others groups n) = λ k d l. let w =
    others-from groups n k d l in record { index = w.index; inside = omega (arith, w.inside); is = w.is; other = w.other } in
    let all : All (IsFrom groups (n + 1)) (others groups (n + 1)) = subst (All (IsFrom groups (n + 1))) (sym (others-next groups n))
    (All-append (IsFrom groups (n + 1)) (others groups n) (if_other (group_in groups n) (group_in groups n)) wider (if_from groups n (is_plain (group_in groups n)) refl)) in
    subst (λ (m : ℕ). All (IsFrom groups m) (others groups m)) (add-one n) all

-- a group is not among the others before it
pub others-new : (groups : List Group) → AreApart groups → (n : ℕ) → n < length groups → group_index (group_in groups n) (others groups n) ≡ None
others-new groups apart n l =
    none-index (group_in groups n) (others groups n) (λ k inside e.
    let w = others-from groups n k (of_class None) inside in
    apart-ne groups apart w.index n (omega (arith, w.inside)) l (λ z. omega (arith, z, w.inside)) (sym w.is ∙ e))
