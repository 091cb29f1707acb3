-- Numbers of names: one for each name.
use Rattle.cut_file.proofs.Common.{◌≡◌, ℕ, zero, suc, ◌==◌, Bool, false, List, [], ◌∷◌, ◌++◌, slice_get, Some, is_some, if◌then◌else◌, arith, Contains, bytes_eq, eq-eqb, ne_eqb, cases_Bool}
use Rattle.cut_file.proofs.{Common.{bytes_eq-Decides, slice_get_within, get_or_from_slice_get, same_Some, AreDistinct, number_in, row, add_new, run_names, place_names}, NumberFacts.there_place}
use Rattle.plan_model.proofs.Texts.{AreDistinct-push}
use Rattle.delay_table.proofs.NumberedFacts.{one_index}

push_if : (names : List (List ℕ)) (x : List ℕ) (b : Bool) → (b ≡ false → Contains names x → ⊥) → AreDistinct names → AreDistinct (if b then names else names ++ x ∷ [])
push_if names x b absent d = grind (arith, AreDistinct-push)

add_distinct : (names : List (List ℕ)) (x : List ℕ) → AreDistinct names → AreDistinct (add_new names x)
unfolding add_new
add_distinct names x d = push_if names x (is_some (number_in x names)) (λ none there. let some = there_place names x there in absurd (cc)) d

none_distinct : AreDistinct []
none_distinct i j less inside same = absurd (omega arith)

pub runs_distinct : (t : List (List (List ℕ))) (n : ℕ) → AreDistinct (run_names t n)
unfolding run_names
runs_distinct t zero = none_distinct
runs_distinct t (suc n) = add_distinct (run_names t n) (row t n).run (runs_distinct t n)

pub places_distinct : (t : List (List (List ℕ))) (n : ℕ) → AreDistinct (place_names t n)
unfolding place_names
places_distinct t zero = none_distinct
places_distinct t (suc n) = add_distinct (add_new (place_names t n) (row t n).from) (row t n).to (add_distinct (place_names t n) (row t n).from (places_distinct t n))

-- one name has one number
pub one_number : (names : List (List ℕ)) → AreDistinct names → (a b : ℕ) (x : List ℕ) → slice_get names a ≡ Some x → slice_get names b ≡ Some x → a ≡ b
one_number names d a b x h k = grind (arith, one_index, slice_get_within, get_or_from_slice_get)

-- so names are compared by their numbers
pub same_name : (names : List (List ℕ)) → AreDistinct names → (a b : ℕ) (x y : List ℕ) → slice_get names a ≡ Some x → slice_get names b ≡ Some y → bytes_eq x y ≡ (a == b)
same_name names d a b x y h k = grind (arith, bytes_eq-Decides, eq-eqb, one_number, ne_eqb, same_Some, cases_Bool)
