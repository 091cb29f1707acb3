-- Names that are numbered as they come.
use Rattle.cut_file.proofs.Common.{◌≡◌, ℕ, zero, suc, ◌+◌, ◌≤◌, Bool, true, false, List, [], ◌∷◌, ◌++◌, length, get_or, slice_get, Option, Some, None, is_some, if◌then◌else◌, refl, sym, ap, ◌∙◌}
use Rattle.cut_file.proofs.Common.{subst, take, arith, Contains, length-append, bytes_eq, cases_Bool, get_or_default, take_more, none-some, slice_get_within, get_or_from_slice_get, Adds}
use Rattle.cut_file.proofs.Common.{AreDistinct, number_in, absent_by, CutRow, Row, add_new, IsNumbered}
use Rattle.text_index.proofs.KeyLemmas.{new_after_those_before}
use Rattle.csv_rows.proofs.{IdLemmas.{got, number-contained}, HeaderLemmas.bytes_ne}

-- the next of these names is new after those before it
pub next_absent : (names taken : List (List ℕ)) (k : ℕ) (name : List ℕ) → AreDistinct names → taken ≡ take k names → slice_get names k ≡ Some name → ¬ Contains taken name
next_absent names taken k name distinct e h =
    let w = got names k name [] h in
    subst (λ (xs : List (List ℕ)). ¬ Contains xs name) (sym e) (subst (λ (x : List ℕ). ¬ Contains (take k names) x) w.1 (new_after_those_before names k distinct w.0))

-- and goes last
pub next_taken : (names taken more : List (List ℕ)) (k : ℕ) (name : List ℕ) → taken ≡ take k names → slice_get names k ≡ Some name → more ≡ taken ++ name ∷ [] → more ≡ take (k + 1) names
next_taken names taken more k name e h f =
    let w = got names k name [] h in
    f ∙ ap (λ xs. xs ++ name ∷ []) e ∙ ap (λ (x : List ℕ). take k names ++ x ∷ []) (sym w.1) ∙ sym (take_more names k [] w.0)

abbrev add_if : Bool → List (List ℕ) → List ℕ → List (List ℕ)
add_if b names name = if b then names else names ++ name ∷ []

absent_place : (names : List (List ℕ)) (name : List ℕ) → (Contains names name → ⊥) → number_in name names ≡ None
unfolding number_in
absent_place names name h =
    absent_by (λ k. bytes_eq (get_or names k []) name) (length names)
    (λ k l. bytes_ne (get_or names k []) name (λ e. h (k, l, get_or_default names k name [] l ∙ e)))

some_from : (o : Option ℕ) → (o ≡ None → ⊥) → is_some o ≡ true
some_from o h = grind arith

pub there_place : (names : List (List ℕ)) (name : List ℕ) → Contains names name → is_some (number_in name names) ≡ true
there_place names name c = some_from (number_in name names) (number-contained name names c)

-- what adding a name does
pub add_new-from_adds : (old new : List (List ℕ)) (name : List ℕ) (added : Bool) → Adds old new name added → new ≡ add_new old name
unfolding add_new
add_new-from_adds old new name added h = grind (arith, cases_Bool added, absent_place, there_place)

-- a name that has a number is there already
pub add_new_there : (names : List (List ℕ)) (name : List ℕ) (k : ℕ) → slice_get names k ≡ Some name → names ≡ add_new names name
add_new_there names name k h =
    add_new-from_adds names names name false (refl, (k, slice_get_within names k name h, get_or_from_slice_get names k name name h))

length_if : (b : Bool) (names : List (List ℕ)) (name : List ℕ) → length (add_if b names name) ≤ length names + 1
length_if b names name = grind (arith, cases_Bool b, length-append)

pub length_add : (names : List (List ℕ)) (name : List ℕ) → length (add_new names name) ≤ length names + 1
unfolding add_new
length_add names name = length_if (is_some (number_in name names)) names name

pub get_before : (xs ys : List (List ℕ)) (k : ℕ) (y : List ℕ) → slice_get xs k ≡ Some y → slice_get (xs ++ ys) k ≡ Some y
get_before [] ys k y h = let w : ⊥ = none-some y h in absurd w
get_before (x ∷ xs) ys zero y h = h
get_before (x ∷ xs) ys (suc k) y h = get_before xs ys k y h

get_if : (b : Bool) (names : List (List ℕ)) (name : List ℕ) (k : ℕ) (y : List ℕ) → slice_get names k ≡ Some y → slice_get (add_if b names name) k ≡ Some y
get_if b names name k y h = grind (arith, cases_Bool b, get_before)

-- a name keeps its number
pub get_add : (names : List (List ℕ)) (name : List ℕ) (k : ℕ) (y : List ℕ) → slice_get names k ≡ Some y → slice_get (add_new names name) k ≡ Some y
unfolding add_new
get_add names name k y h = get_if (is_some (number_in name names)) names name k y h

pub numbered_grows : (runs places : List (List ℕ)) (x y z : List ℕ) (r : Row) (c : CutRow) → IsNumbered runs places r c → IsNumbered (add_new runs x) (add_new (add_new places y) z) r c
numbered_grows runs places x y z r c h = grind (arith, get_add)
