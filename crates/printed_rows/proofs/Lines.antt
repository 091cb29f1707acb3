-- The fields of printed rows, and texts one after another.
use Rattle.printed_rows.proofs.Common.{◌≡◌, ℕ, ◌+◌, ◌<◌, List, [], ◌∷◌, ◌++◌, length, drop, Some, sym, ◌∙◌, ap, append_assoc, slice_get, slice_index_or}
use Rattle.std.proofs.lemmas.{List.drop_more, Option.get_or_from_slice_get}

-- the name of this number
pub name_is : (names : List (List ℕ)) (i : ℕ) (name : List ℕ) → slice_get names i ≡ Some name → name ≡ slice_index_or names i []
name_is names i name is = sym (get_or_from_slice_get names i name [] is)

-- the same fields are the same rows
pub four_fields : (a b c d a' b' c' d' : List ℕ) → a ≡ a' → b ≡ b' → c ≡ c' → d ≡ d' → ◌≡◌ {A = List (List ℕ)} (a ∷ b ∷ c ∷ d ∷ []) (a' ∷ b' ∷ c' ∷ d' ∷ [])
four_fields a b c d a' b' c' d' = λ one two three four. cc

pub seven_fields : (a b c d e f g a' b' c' d' e' f' g' : List ℕ) → a ≡ a' → b ≡ b' → c ≡ c' → d ≡ d' → e ≡ e' → f ≡ f' → g ≡ g'
    → ◌≡◌ {A = List (List ℕ)} (a ∷ b ∷ c ∷ d ∷ e ∷ f ∷ g ∷ []) (a' ∷ b' ∷ c' ∷ d' ∷ e' ∷ f' ∷ g' ∷ [])
seven_fields a b c d e f g a' b' c' d' e' f' g' = λ one two three four five six seven. cc

-- after one text more
pub text_step : (new old a rest all : List ℕ) → new ≡ old ++ a → old ++ (a ++ rest) ≡ all → new ++ rest ≡ all
text_step new old a rest all is before = ap (λ (list : List ℕ). list ++ rest) is ∙ append_assoc old a rest ∙ before

-- after one element more
pub split_at : {X : Type 0} (xs : List X) (i : ℕ) (d : X) → i < length xs → drop i xs ≡ slice_index_or xs i d ∷ drop (i + 1) xs
split_at xs i d within = drop_more xs i d within

-- the same of a list, whose text is that of each element and then that of the others
pub text_more : {X : Type 0} (F : List X → List ℕ) (g : X → List ℕ) → ((x : X) (xs : List X) → F (x ∷ xs) ≡ g x ++ F xs)
    → (xs : List X) (i : ℕ) (x d : X) (new old all : List ℕ)
    → i < length xs → x ≡ slice_index_or xs i d → new ≡ old ++ g x → old ++ F (drop i xs) ≡ all → new ++ F (drop (i + 1) xs) ≡ all
text_more F g step xs i x d new old all within at is before =
    text_step new old (g x) (F (drop (i + 1) xs)) all is
    (ap (λ (text : List ℕ). old ++ text) (ap (λ y. g y ++ F (drop (i + 1) xs)) at
    ∙ sym (ap F (split_at xs i d within) ∙ step (slice_index_or xs i d) (drop (i + 1) xs))) ∙ before)
