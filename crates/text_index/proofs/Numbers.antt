-- The number of a name.
use Rattle.text_index.proofs.Common.{◌≡◌, ℕ, zero, suc, ◌+◌, ◌<◌, Bool, true, false, List, [], ◌∷◌, length, Contains, IsUtf8, Option, Some, None, arith, sym, refl, ◌∙◌, ap, slice_get}
use Rattle.text_index.proofs.Common.{slice_index_or, IfSome, IfNone, if◌then◌else◌, bytes_eq, get_or_default, AreDistinct}
use Rattle.text_index.specs.Numbers.{number_of}
use Rattle.std.specs.{List.position_from, Str.is_utf8, Cmp.Lexicographic.bytes_decides}
use Rattle.std.proofs.lemmas.Str.{IsUtf8-from_is_utf8, is_utf8-from_IsUtf8}

-- the first index where a test holds
pub position_found : {X : Type 0} (t : X → Bool) (xs : List X) (from j : ℕ) (d : X) → ((k : ℕ) → k < j → t (slice_index_or xs k d) ≡ false)
    → j < length xs → t (slice_index_or xs j d) ≡ true → position_from t from xs ≡ Some (from + j)
position_found t [] from j d before within holds = absurd (omega (arith, within))
position_found t (x ∷ xs) from zero d before within holds = rw holds (ap (λ (k : ℕ). Some k) (let e : from ≡ from + 0 = omega arith in e))
position_found t (x ∷ xs) from (suc j) d before within holds =
    rw (before 0 (omega arith)) (position_found t xs (from + 1) j d (λ k less. before (suc k) (omega (arith, less))) (omega (arith, within)) holds
    ∙ ap (λ (k : ℕ). Some k) (let e : from + 1 + j ≡ from + suc j = omega arith in e))

pub position_none : {X : Type 0} (t : X → Bool) (xs : List X) (from : ℕ) (d : X) → ((k : ℕ) → k < length xs → t (slice_index_or xs k d) ≡ false) → position_from t from xs ≡ None
position_none t [] from d none = refl
position_none t (x ∷ xs) from d none = rw (none 0 (omega arith)) (position_none t xs (from + 1) d (λ k less. none (suc k) (omega (arith, less))))

pub false_if : (b : Bool) → (b ≡ true → ⊥) → b ≡ false
false_if true no_way = absurd (no_way refl)
false_if false no_way = refl

get_within : {X : Type 0} (xs : List X) (i : ℕ) (x d : X) → slice_get xs i ≡ Some x → (i < length xs) × (slice_index_or xs i d ≡ x)
get_within [] i x d is = absurd (cc)
get_within (y ∷ xs) zero x d is = (omega arith, (cc))
get_within (y ∷ xs) (suc i) x d is = let more = get_within xs i x d is in (omega (arith, more.0), more.1)

pub with_utf8 : (text : List ℕ) (names : List (List ℕ)) → IsUtf8 text → number_of names text ≡ position_from (λ name. bytes_eq name text) 0 names
with_utf8 text names utf8 = ap (λ (b : Bool). if b then position_from (λ name. bytes_eq name text) 0 names else None) (is_utf8-from_IsUtf8 text utf8)

pub no_number : (text : List ℕ) (names : List (List ℕ)) → (IsUtf8 text → ⊥) → None ≡ number_of names text
no_number text names not_utf8 = sym (ap (λ (b : Bool). if b then position_from (λ name. bytes_eq name text) 0 names else None) (false_if (is_utf8 text) (λ is. not_utf8 (IsUtf8-from_is_utf8 text is))))

by_name : (found : Option ℕ) (names : List (List ℕ)) (name : List ℕ) → IfSome found (λ i. slice_get names i ≡ Some name)
    → IfNone found (Contains names name → ⊥) → AreDistinct names
    → found ≡ position_from (λ own. bytes_eq own name) 0 names
by_name (Some i) names name there none distinct =
    let at = get_within names i name [] there in
    grind (arith, position_found, false_if, slice_index_or, bytes_decides)
by_name None names name there none distinct =
    sym (position_none (λ own. bytes_eq own name) names 0 [] (λ k within. false_if (bytes_eq (slice_index_or names k []) name)
    (λ same. none (k, within, get_or_default names k name [] within ∙ (bytes_decides (slice_index_or names k []) name).0 same))))

pub number_is : (found : Option ℕ) (names : List (List ℕ)) (text name : List ℕ) → name ≡ text → IsUtf8 text
    → IfSome found (λ i. slice_get names i ≡ Some name) → IfNone found (Contains names name → ⊥) → AreDistinct names → found ≡ number_of names text
number_is found names text name is utf8 there none distinct =
    by_name found names name there none distinct ∙ ap (λ (t : List ℕ). position_from (λ own. bytes_eq own t) 0 names) is ∙ sym (with_utf8 text names utf8)
