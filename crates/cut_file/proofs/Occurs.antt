-- Each number is that of some row.
use Rattle.cut_file.proofs.Common.{◌≡◌, ℕ, zero, suc, ◌*◌, ◌<◌, ◌≤◌, ◌⊎◌, inl, inr, Bool, true, false, List, [], ◌∷◌, ◌++◌, length, slice_get, Some, is_some, if◌then◌else◌, refl, sym, subst}
use Rattle.cut_file.proofs.{Common.{arith, ⊎_elim, length-append, eq-or-lt_of_le, number_in, row, add_new, run_names, place_names}, NumberFacts.{get_add, length_add}}

get_last : (names : List (List ℕ)) (x : List ℕ) → slice_get (names ++ x ∷ []) (length names) ≡ Some x
get_last [] x = refl
get_last (y ∷ ys) x = get_last ys x

new_if : (b : Bool) (names : List (List ℕ)) (x : List ℕ) (r : ℕ) → r < length (if b then names else names ++ x ∷ [])
    → (r < length names) ⊎ (slice_get (if b then names else names ++ x ∷ []) r ≡ Some x)
new_if true names x r l = inl l
new_if false names x r l =
    let size = length-append names (x ∷ []) in
    ⊎_elim (λ (e : r ≡ length names). let P : ℕ → Type 0 = λ k. slice_get (names ++ x ∷ []) k ≡ Some x in inr (subst P (sym e) (get_last names x)))
    (λ (less : r < length names). inl less) (eq-or-lt_of_le (omega (arith, size)))

-- a number is an old one, or that of the new name
new_or_old : (names : List (List ℕ)) (x : List ℕ) (r : ℕ) → r < length (add_new names x) → (r < length names) ⊎ (slice_get (add_new names x) r ≡ Some x)
unfolding add_new
new_or_old names x r l = new_if (is_some (number_in x names)) names x r l

pub record OfRun (t : List (List (List ℕ))) (n r : ℕ) : Type 0 where
  pub at : ℕ
  pub inside : at < n
  pub is : slice_get (run_names t n) r ≡ Some (row t at).run

pub run_occurs : (t : List (List (List ℕ))) (n r : ℕ) → r < length (run_names t n) → OfRun t n r
unfolding run_names
run_occurs t zero r l = absurd (omega arith)
run_occurs t (suc n) r l =
    ⊎_elim (λ (old : r < length (run_names t n)).
    let w = run_occurs t n r old in
    record { at = w.at; inside = omega (arith, w.inside); is = get_add (run_names t n) (row t n).run r (row t w.at).run w.is })
    (λ (new : slice_get (add_new (run_names t n) (row t n).run) r ≡ Some (row t n).run). record { at = n; inside = omega arith; is = new })
    (new_or_old (run_names t n) (row t n).run r l)

pub record OfPlace (t : List (List (List ℕ))) (n p : ℕ) : Type 0 where
  pub at : ℕ
  pub inside : at < n
  pub is : (slice_get (place_names t n) p ≡ Some (row t at).from) ⊎ (slice_get (place_names t n) p ≡ Some (row t at).to)

pub place_occurs : (t : List (List (List ℕ))) (n p : ℕ) → p < length (place_names t n) → OfPlace t n p
unfolding place_names
place_occurs t zero p l = absurd (omega arith)
place_occurs t (suc n) p l =
    let names = place_names t n in
    let x = (row t n).from in let y = (row t n).to in
    ⊎_elim (λ (old : p < length (add_new names x)).
    ⊎_elim (λ (older : p < length names).
    let w = place_occurs t n p older in
    record {
      at = w.at;
      inside = omega (arith, w.inside);
      is = grind (arith, get_add);
    })
    (λ (new : slice_get (add_new names x) p ≡ Some x). record { at = n; inside = omega arith; is = inl (get_add (add_new names x) y p x new) })
    (new_or_old names x p old))
    (λ (new : slice_get (add_new (add_new names x) y) p ≡ Some y). record { at = n; inside = omega arith; is = inr new })
    (new_or_old (add_new names x) y p l)

pub few_places : (t : List (List (List ℕ))) (n : ℕ) → length (place_names t n) ≤ 2 * n
unfolding place_names
few_places t zero = omega arith
few_places t (suc n) = grind (arith, length_add, few_places t n)
