-- The longest change of each place, one row more.
use Rattle.cut_file.proofs.Common.{◌≡◌, ℕ, suc, ◌+◌, ◌<◌, ◌==◌, max, true, false, List, length, get_or, set, refl, sym, ap, ◌∙◌, subst, arith, ⊎_elim, add-one, get_or-set_same, get_or-set_other}
use Rattle.cut_file.proofs.Common.{cases_Bool, eqb-true, eqb-false, CutRow, cut_row, longest, change_by, change_seconds_of}

pub longest-zero : (rows : List CutRow) (p : ℕ) → longest rows 0 p ≡ 0
unfolding longest
longest-zero rows p = refl

pub longest-suc : (rows : List CutRow) (n p : ℕ) → longest rows (suc n) p ≡ max (longest rows n p) (change_by ((cut_row rows n).from == p) (cut_row rows n))
unfolding longest
longest-suc rows n p = refl

max_zero : (a : ℕ) → max a 0 ≡ a
max_zero a = omega arith

pub longest_next : (rows : List CutRow) (i : ℕ) (times : List ℕ) (places m : ℕ) → length times ≡ places → ((p : ℕ) → p < places → get_or times p 0 ≡ longest rows i p)
    → (cut_row rows i).from < places → m ≡ max (get_or times (cut_row rows i).from 0) (change_seconds_of (cut_row rows i).change)
    → (p : ℕ) → p < places → get_or (set times (cut_row rows i).from m) p 0 ≡ longest rows (i + 1) p
longest_next rows i times places m size each inside e p l =
    let f = (cut_row rows i).from in
    rw add-one
    (⊎_elim (λ (t : (f == p) ≡ true).
    let same : f ≡ p = eqb-true f p t in
    let P : ℕ → Type 0 = λ x. get_or (set times f m) x 0 ≡ max (longest rows i x) (change_seconds_of (cut_row rows i).change) in
    let here : get_or (set times f m) f 0 ≡ max (longest rows i f) (change_seconds_of (cut_row rows i).change) =
    get_or-set_same times f m 0 (omega arith) ∙ e ∙ ap (λ x. max x (change_seconds_of (cut_row rows i).change)) (each f inside) in
    subst P same here ∙ ap (λ b. max (longest rows i p) (change_by b (cut_row rows i))) (sym t) ∙ sym (longest-suc rows i p))
    (λ (g : (f == p) ≡ false).
    get_or-set_other times f p m 0 (λ e. eqb-false f p g (sym e)) ∙ each p l ∙ sym (max_zero (longest rows i p))
    ∙ ap (λ b. max (longest rows i p) (change_by b (cut_row rows i))) (sym g) ∙ sym (longest-suc rows i p))
    (cases_Bool (f == p)))
