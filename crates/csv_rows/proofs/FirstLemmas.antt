-- The first fault below a number, step by step, and that it is the least of all that hold.
use Rattle.csv_rows.proofs.Common.{◌≡◌, ℕ, zero, suc, ◌+◌, ◌<◌, Bool, true, false, ◌||◌, ◌&&◌, Option, Some, None, option_map, if◌then◌else◌, refl, sym, ap, ap₂, ◌∙◌, subst, arith, ⊎_elim}
use Rattle.csv_rows.proofs.Common.{eq-or-lt_of_le, add-one, ◌⊎◌, Decides, cond_some, none-some, cases_Bool, and_from, and_parts, false_from_ne_true, Decides-below_or, option_or, first_below}
use Rattle.csv_rows.proofs.Common.{any_below}

pub first-zero : {F : Type 0} (f : ℕ → Option F) → first_below f 0 ≡ None
unfolding first_below
first-zero f = refl

pub first-suc : {F : Type 0} (f : ℕ → Option F) (n : ℕ) → first_below f (suc n) ≡ option_or (first_below f n) (f n)
unfolding first_below
first-suc f n = refl

-- where none holds there is none
pub first-none : {F : Type 0} (f : ℕ → Option F) (n : ℕ) → ((k : ℕ) → k < n → f k ≡ None) → first_below f n ≡ None
first-none f zero h = first-zero f
first-none f (suc n) h = first-suc f n ∙ ap₂ option_or (first-none f n (λ k l. h k (omega arith))) (h n (omega arith))

-- one more
pub first-next : {F : Type 0} (f : ℕ → Option F) (n : ℕ) (o : Option F) → first_below f n ≡ None → f n ≡ o → first_below f (n + 1) ≡ o
first-next f n o h e = rw add-one (first-suc f n ∙ ap (λ x. option_or x (f n)) h ∙ e)

-- the one that holds at k, where none holds before
pub first-at : {F : Type 0} (f : ℕ → Option F) (k n : ℕ) (e : F) → k < n → first_below f k ≡ None → f k ≡ Some e → first_below f n ≡ Some e
first-at f k zero e l none here = absurd (omega arith)
first-at f k (suc n) e l none here =
    ⊎_elim (λ (same : k ≡ n). subst (λ i. first_below f (suc i) ≡ Some e) same (first-suc f k ∙ ap₂ option_or none here))
    (λ (less : k < n). first-suc f n ∙ ap (λ x. option_or x (f n)) (first-at f k n e less none here)) (eq-or-lt_of_le (omega arith))

pub none-both : {F : Type 0} (a b : Option F) → option_or a b ≡ None → (a ≡ None) × (b ≡ None)
none-both a b h = grind arith

-- where there is none, none holds
pub none-each : {F : Type 0} (f : ℕ → Option F) (n : ℕ) → first_below f n ≡ None → (k : ℕ) → k < n → f k ≡ None
none-each f zero h k l = absurd (omega arith)
none-each f (suc n) h k l =
    let both = none-both (first_below f n) (f n) (sym (first-suc f n) ∙ h) in
    ⊎_elim (λ (same : k ≡ n). let P : ℕ → Type 0 = λ i. f i ≡ None in subst P (sym same) both.1)
    (λ (less : k < n). none-each f n both.0 k less)
    (eq-or-lt_of_le (omega arith))

-- f holds at some index, and at none before
pub record IsFirst {F : Type 0} (f : ℕ → Option F) (n : ℕ) (e : F) : Type 0 where
  pub index : ℕ
  pub inside : index < n
  pub here : f index ≡ Some e
  pub none : (j : ℕ) → j < index → f j ≡ None

some_one : {F : Type 0} (a b : Option F) (e : F) → option_or a b ≡ Some e → (a ≡ Some e) ⊎ ((a ≡ None) × (b ≡ Some e))
some_one a b e h = grind arith

-- what comes first is the least of all that hold
pub first-is : {F : Type 0} (f : ℕ → Option F) (n : ℕ) (e : F) → first_below f n ≡ Some e → IsFirst f n e
first-is f zero e h = let w : ⊥ = none-some e (sym (first-zero f) ∙ h) in absurd w
first-is f (suc n) e h =
    ⊎_elim (λ (w : first_below f n ≡ Some e).
    let r = first-is f n e w in record { index = r.index; inside = omega (arith, r.inside); here = r.here; none = r.none })
    (λ (w : (first_below f n ≡ None) × (f n ≡ Some e)). record { index = n; inside = omega arith; here = w.1; none = none-each f n w.0 })
    (some_one (first_below f n) (f n) e (sym (first-suc f n) ∙ h))

any-decides : (p : ℕ → Bool) (n : ℕ) → Decides (any_below p n) ((k : ℕ) × (k < n) × (p k ≡ true))
unfolding any_below
any-decides p n = Decides-below_or p (λ k. p k ≡ true) (any_below p) (λ k. (λ t. t, λ t. t)) refl (λ k. or_swap (any_below p k) (p k)) n
  where
    or_swap : (a b : Bool) → (a || b) ≡ (b || a)
    or_swap a b = grind arith

-- it holds at k
pub any-true : (p : ℕ → Bool) (n k : ℕ) → k < n → p k ≡ true → any_below p n ≡ true
any-true p n k l h = (any-decides p n).1 (k, l, h)

-- it holds nowhere
pub any-false : (p : ℕ → Bool) (n : ℕ) → ((k : ℕ) → k < n → p k ≡ true → ⊥) → any_below p n ≡ false
any-false p n h = false_from_ne_true (any_below p n) (λ t. let w = (any-decides p n).0 t in h w.0 w.1 w.2)

-- where p holds at one index alone, q is asked there alone
pub any-one : (p q : ℕ → Bool) (n b : ℕ) → b < n → p b ≡ true → ((j : ℕ) → j < n → p j ≡ true → j ≡ b) → any_below (λ j. p j && q j) n ≡ q b
any-one p q n b l here one =
    ⊎_elim (λ (t : q b ≡ true). any-true (λ j. p j && q j) n b l (and_from (p b) (q b) here t) ∙ sym t)
    (λ (f : q b ≡ false).
    any-false (λ j. p j && q j) n (λ j less both.
    let same = one j less (and_parts (p j) (q j) both).0 in
    let P : ℕ → Type 0 = λ i. q i ≡ true in
    let t : q b ≡ true = subst P same (and_parts (p j) (q j) both).1 in cc) ∙ sym f)
    (cases_Bool (q b))

-- where p holds nowhere, q is never asked
pub any-none : (p q : ℕ → Bool) (n : ℕ) → ((j : ℕ) → j < n → p j ≡ true → ⊥) → any_below (λ j. p j && q j) n ≡ false
any-none p q n none = any-false (λ j. p j && q j) n (λ j less both. none j less (and_parts (p j) (q j) both).0)

-- the same tests, the same answer
pub any-same : (p q : ℕ → Bool) (n : ℕ) → ((k : ℕ) → k < n → p k ≡ q k) → any_below p n ≡ any_below q n
unfolding any_below
any-same p q zero h = refl
any-same p q (suc n) h = ap₂ (λ a b. a || b) (any-same p q n (λ k l. h k (omega arith))) (h n (omega arith))

-- the same faults, the same first
pub first-same : {F : Type 0} (f g : ℕ → Option F) (n : ℕ) → ((k : ℕ) → k < n → f k ≡ g k) → first_below f n ≡ first_below g n
first-same f g zero h = first-zero f ∙ sym (first-zero g)
first-same f g (suc n) h = first-suc f n ∙ ap₂ option_or (first-same f g n (λ k l. h k (omega arith))) (h n (omega arith)) ∙ sym (first-suc g n)

reported-if : {F : Type 0} (fault : ℕ → F) (b : Bool) (i : ℕ) (o : Option ℕ)
    → option_or (option_map fault o) (if b then Some (fault i) else None) ≡ option_map fault (option_or o (if b then Some i else None))
reported-if fault b i o = grind arith

-- the fault of the first index at which it holds
pub first-reported : {F : Type 0} (fault : ℕ → F) (p : ℕ → Bool) (n : ℕ)
    → first_below (λ i. if p i then Some (fault i) else None) n ≡ option_map fault (first_below (λ i. if p i then Some i else None) n)
first-reported fault p zero = first-zero (λ i. if p i then Some (fault i) else None) ∙ sym (ap (option_map fault) (first-zero (λ i. if p i then Some i else None)))
first-reported fault p (suc n) = grind (arith, first-suc, reported-if, first-reported fault p n)

-- the first index at which a test holds
abbrev pub index_by : (ℕ → Bool) → ℕ → Option ℕ
index_by p n = first_below (λ k. if p k then Some k else None) n

pub index_by-some : (p : ℕ → Bool) (n k : ℕ) → index_by p n ≡ Some k → (k < n) × (p k ≡ true)
index_by-some p n k h =
    let w = first-is (λ k. if p k then Some k else None) n k h in
    let t = cond_some (p w.index) w.index k w.here in subst (λ i. (i < n) × (p i ≡ true)) t.1 (w.inside, t.0)

pub index_by-none : (p : ℕ → Bool) (n : ℕ) → index_by p n ≡ None → (k : ℕ) → k < n → p k ≡ false
index_by-none p n h k l = let here = none-each (λ k. if p k then Some k else None) n h k l in false_from_ne_true (p k) (λ t. none-some k (sym (rw t at here)))

pub absent_by : (p : ℕ → Bool) (n : ℕ) → ((k : ℕ) → k < n → p k ≡ false) → index_by p n ≡ None
absent_by p n h = first-none (λ k. if p k then Some k else None) n (λ k l. ap (λ b. if b then Some k else None) (h k l))

pub found_by : (p : ℕ → Bool) (n k : ℕ) → k < n → p k ≡ true → ((j : ℕ) → j < k → p j ≡ false) → index_by p n ≡ Some k
found_by p n k l here none = first-at (λ k. if p k then Some k else None) k n k l (absent_by p k none) (ap (λ b. if b then Some k else None) here)
