-- Ids by their numbers, and ids that come twice.
use Rattle.csv_rows.proofs.Common.{◌≡◌, ℕ, ◌+◌, ◌<◌, ◌≤◌, ◌==◌, ◌&&◌, Bool, false, List, [], ◌∷◌, ◌++◌, length, slice_index_or, Option, Some, None, IfSome, IfNone, Contains, refl, sym, ap, ap₂}
use Rattle.csv_rows.proofs.Common.{◌∙◌, arith, ⊎_elim, bytes_eq, if◌then◌else◌, add-one, length-append, slice_get, eq-eqb, ne_eqb, common_steps, both_ways, cases_lt, cases_Bool, get_or_default}
use Rattle.csv_rows.proofs.Common.{get_or_append_left, get_or_push, slice_get_cases, none-some, bytes_eq-Decides, option_or, Table, FeedFault, DuplicateKey, first_below, any_below, number_in}
use Rattle.csv_rows.proofs.{Common.{AreDistinct, repeated_id, list_below}, FirstLemmas.{any-true, any-false, any-one, any-none, first-suc, index_by-some, index_by-none, first-same, none-each}}
use Rattle.csv_rows.proofs.{HeaderLemmas.index_is, ListLemmas.{length-list_below, get-list_below}}

-- what is at an index where something is
pub got : {A : Type 0} (xs : List A) (i : ℕ) (x d : A) → slice_get xs i ≡ Some x → (i < length xs) × (slice_index_or xs i d ≡ x)
got xs i x d h = grind (arith, common_steps, get_or_default, none-some, slice_get_cases)

-- where an id is found
pub number_is : (o : Option ℕ) (name : List ℕ) (names : List (List ℕ)) → AreDistinct names → IfSome o (λ i. slice_get names i ≡ Some name)
    → IfNone o (Contains names name → ⊥) → o ≡ number_in name names
number_is None name names distinct found absent =
    index_is None name names tt tt (λ k inside same. absent (k, inside, get_or_default names k name [] inside ∙ same))
number_is (Some i) name names distinct found absent =
    let here = got names i name [] found in
    index_is (Some i) name names here (λ k less same. distinct k i less here.0 (same ∙ sym here.1)) tt

pub found : (keys names : List (List ℕ)) (name : List ℕ) (i : ℕ) → AreDistinct keys → keys ≡ names → slice_get keys i ≡ Some name → Some i ≡ number_in name names
found keys names name i distinct same here = number_is (Some i) name keys distinct here tt ∙ ap (number_in name) same

dup : Table → ℕ → Bool → Option FeedFault
dup table i b = if b then Some (DuplicateKey table (i + 2)) else None

-- a row whose id is new
pub not_repeated : (table : Table) (id : ℕ → List ℕ) (i : ℕ) (old : List (List ℕ)) (x : List ℕ) → old ≡ list_below id i → x ≡ id i → (Contains old x → ⊥)
    → repeated_id table id i ≡ None
unfolding repeated_id dup
not_repeated table id i old x e same absent =
    ap (dup table i) (any-false (λ j. bytes_eq (id j) (id i)) i (λ j less t.
    let here : slice_index_or old j x ≡ x = ap (λ xs. slice_index_or xs j x) e ∙ get-list_below id i j x less ∙ (bytes_eq-Decides (id j) (id i)).0 t ∙ sym same in
    absent (j, omega (arith, ap length e, length-list_below id i), here)))

-- and one whose id is not
pub repeated : (table : Table) (id : ℕ → List ℕ) (i : ℕ) (old : List (List ℕ)) (x : List ℕ) → old ≡ list_below id i → x ≡ id i → Contains old x
    → repeated_id table id i ≡ Some (DuplicateKey table (i + 2))
unfolding repeated_id dup
repeated table id i old x e same there =
    let inside : there.0 < i = omega (arith, there.1, ap length e, length-list_below id i) in
    let here : id there.0 ≡ id i = sym (get-list_below id i there.0 x inside) ∙ sym (ap (λ xs. slice_index_or xs there.0 x) e) ∙ there.2 ∙ same in
    ap (dup table i) (any-true (λ j. bytes_eq (id j) (id i)) i there.0 inside ((bytes_eq-Decides (id there.0) (id i)).1 here))

-- ids of which none comes twice
pub ids_differ : (table : Table) (id : ℕ → List ℕ) (n : ℕ) → first_below (repeated_id table id) n ≡ None → (i j : ℕ) → i < j → j < n → id i ≡ id j → ⊥
unfolding repeated_id dup
ids_differ table id n none i j less inside same =
    let here = none-each (repeated_id table id) n none j inside in
    let there = any-true (λ k. bytes_eq (id k) (id j)) j i less ((bytes_eq-Decides (id i) (id j)).1 same) in
    let found : Some (DuplicateKey table (j + 2)) ≡ None = sym (ap (dup table j) there) ∙ here in cc

one_of : (table : Table) (id : ℕ → List ℕ) (n : ℕ) → first_below (repeated_id table id) n ≡ None → (i j : ℕ) → i < n → j < n → id i ≡ id j → i ≡ j
one_of table id n none i j a b same =
    ⊎_elim (λ (less : i < j). absurd (ids_differ table id n none i j less b same))
    (λ (ge : j ≤ i). ⊎_elim (λ (less : j < i). absurd (ids_differ table id n none j i less a (sym same))) (λ (le : i ≤ j). omega arith) (cases_lt j i))
    (cases_lt i j)

-- what is at the number of a name
pub number-here : (name : List ℕ) (names : List (List ℕ)) (k : ℕ) → number_in name names ≡ Some k → (k < length names) × (slice_index_or names k [] ≡ name)
unfolding number_in
number-here name names k h =
    let w = index_by-some (λ k. bytes_eq (slice_index_or names k []) name) (length names) k h in (
      w.0,
      (bytes_eq-Decides
          (slice_index_or names k []) name).0 w.1,
    )

-- a name that has no number is nowhere
pub number-none : (name : List ℕ) (names : List (List ℕ)) → number_in name names ≡ None → (k : ℕ) → k < length names → bytes_eq (slice_index_or names k []) name ≡ false
unfolding number_in
number-none name names h = index_by-none (λ k. bytes_eq (slice_index_or names k []) name) (length names) h

-- a name that is there has a number
pub number-contained : (name : List ℕ) (names : List (List ℕ)) → Contains names name → number_in name names ≡ None → ⊥
number-contained name names c none =
    both_ways _ (number-none name names none c.0 c.1) ((bytes_eq-Decides (slice_index_or names c.0 []) name).1 (get_or_default names c.0 [] name c.1 ∙ c.2))

-- one more name
pub number-push : (name : List ℕ) (names : List (List ℕ)) (x : List ℕ) → number_in name (names ++ x ∷ []) ≡ option_or (number_in name names) (if bytes_eq x name then Some (length names) else None)
unfolding number_in
number-push name names x =
    let n = length names in
    let size : length (names ++ x ∷ []) ≡ n + 1 = length-append names (x ∷ []) in
    let f : ℕ → Option ℕ = λ k. if bytes_eq (slice_index_or (names ++ x ∷ []) k []) name then Some k else None in
    ap (first_below f) size
    ∙ rw add-one (first-suc f n)
    ∙ ap₂ option_or
    (first-same f (λ k. if bytes_eq (slice_index_or names k []) name then Some k else None) n (λ k l. ap (λ
    (y : List ℕ). if bytes_eq y name then Some k else None) (get_or_append_left names (x ∷ []) [] k l)))
    (ap (λ (y : List ℕ). if bytes_eq y name then Some n else None) (get_or_push names x [] n refl))

-- an id among those of a table without repetition is that of one row
pub one_row : (table : Table) (id : ℕ → List ℕ) (n : ℕ) (name : List ℕ) (q : ℕ → Bool) → first_below (repeated_id table id) n ≡ None → (k : ℕ) → number_in name (list_below id n) ≡ Some k
    → any_below (λ i. bytes_eq (id i) name && q i) n ≡ q k
one_row table id n name q none k h =
    let w = number-here name (list_below id n) k h in
    let inside : k < n = omega (arith, w.0, length-list_below id n) in
    let here : id k ≡ name = sym (get-list_below id n k [] inside) ∙ w.1 in
    any-one (λ i. bytes_eq (id i) name) q n k inside ((bytes_eq-Decides (id k) name).1 here)
    (λ j less t. one_of table id n none j k less inside ((bytes_eq-Decides (id j) name).0 t ∙ sym here))

-- and one that is not is that of none
pub no_row : (id : ℕ → List ℕ) (n : ℕ) (name : List ℕ) (q : ℕ → Bool) → number_in name (list_below id n) ≡ None → any_below (λ i. bytes_eq (id i) name && q i) n ≡ false
no_row id n name q h =
    any-none (λ i. bytes_eq (id i) name) q n (λ j less t.
    let f = number-none name (list_below id n) h j (omega (arith, length-list_below id n, less)) in
    let g : bytes_eq (id j) name ≡ false = ap (λ (y : List ℕ). bytes_eq y name) (sym (get-list_below id n j [] less)) ∙ f in cc)

-- two numbers are one where the names are
pub number-same : (x y : List ℕ) (names : List (List ℕ)) (m k : ℕ) → number_in x names ≡ Some m → number_in y names ≡ Some k → (m == k) ≡ bytes_eq x y
number-same x y names m k h g =
    let a = number-here x names m h in
    grind (arith, number-here, bytes_eq-Decides, eq-eqb, ne_eqb, slice_index_or, cases_Bool)
