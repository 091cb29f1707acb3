-- The list of a function's values.
use Rattle.csv_rows.proofs.Common.{◌≡◌, ℕ, zero, suc, ◌+◌, ◌<◌, ◌≤◌, drop, length-drop, get_or-drop, List, [], ◌∷◌, ◌++◌, length, slice_index_or, refl, sym, ap, ◌∙◌, subst, arith, ⊎_elim}
use Rattle.csv_rows.proofs.Common.{add-one, length-append, eq-or-lt_of_le, drop-drop, get_or_append_left, get_or_push, list_below}

pub list_below-zero : {A : Type 0} (f : ℕ → A) → list_below f 0 ≡ []
unfolding list_below
list_below-zero f = refl

list_below-suc : {A : Type 0} (f : ℕ → A) (n : ℕ) → list_below f (suc n) ≡ list_below f n ++ f n ∷ []
unfolding list_below
list_below-suc f n = refl

pub length-list_below : {A : Type 0} (f : ℕ → A) (n : ℕ) → length (list_below f n) ≡ n
length-list_below f zero = ap length (list_below-zero f)
length-list_below f (suc n) = grind (arith, list_below-suc, length-append, length-list_below f n)

-- one more value
pub list_below-next : {A : Type 0} (f : ℕ → A) (n : ℕ) (old new : List A) (x : A) → old ≡ list_below f n → new ≡ old ++ x ∷ [] → x ≡ f n → new ≡ list_below f (n + 1)
list_below-next f n old new x e p same =
    rw add-one (p ∙ ap (λ xs. xs ++ x ∷ []) e ∙ ap (λ y. list_below f n ++ y ∷ []) same ∙ sym (list_below-suc f n))

pub get-list_below : {A : Type 0} (f : ℕ → A) (n i : ℕ) (d : A) → i < n → slice_index_or (list_below f n) i d ≡ f i
get-list_below f zero i d h = absurd (omega arith)
get-list_below f (suc n) i d h =
    let P : List _ → Type 0 = λ xs. slice_index_or xs i d ≡ f i in
    subst P (sym (list_below-suc f n))
    (⊎_elim (λ (e : i ≡ n). get_or_push (list_below f n) (f n) d i (length-list_below f n ∙ sym e) ∙ ap f (sym e))
    (λ (less : i < n). get_or_append_left (list_below f n) (f n ∷ []) d i (omega (arith, length-list_below f n)) ∙ get-list_below f n i d less)
    (eq-or-lt_of_le (omega arith)))

-- two such lists are as long as each other
pub same_length : {A B : Type 0} (f : ℕ → A) (g : ℕ → B) (n : ℕ) (xs : List A) (ys : List B) → xs ≡ list_below f n → ys ≡ list_below g n → length xs ≡ length ys
same_length f g n xs ys e h = ap length e ∙ length-list_below f n ∙ sym (ap length h ∙ length-list_below g n)

-- what comes next in a list, and what remains after it
pub drop-next : {A : Type 0} (xs : List A) (n : ℕ) (x : A) (rest : List A) (d : A) → drop n xs ≡ x ∷ rest
    → (slice_index_or xs n d ≡ x) × (drop (n + 1) xs ≡ rest) × (length xs ≡ n + 1 + length rest)
drop-next xs n x rest d e =
    let same : n ≡ n + 0 = omega arith in (
      ap (λ k. slice_index_or xs k d) same ∙ sym (get_or-drop n xs 0 d) ∙ ap (λ l. slice_index_or l 0 d) e,
      sym (drop-drop 1 n xs) ∙ ap (drop 1) e,
      omega (arith, length-drop n xs, ap length e),
    )

-- nothing remains
pub drop-none : {A : Type 0} (xs : List A) (n : ℕ) → drop n xs ≡ [] → length xs ≤ n
drop-none xs n e = omega (arith, length-drop n xs, ap length e)
