-- Trimmed fields neither begin nor end with a space.
use Rattle.csv_rows.proofs.Common.{◌≡◌, ℕ, zero, suc, Option, Bool, true, false, ◌==◌, List, [], ◌∷◌, ◌++◌, map, reverse, slice_index_or, if◌then◌else◌, refl, sym, ap, ◌∙◌, arith, cases_Bool}
use Rattle.csv_rows.proofs.Common.{common_steps, nat_tests, reverse-append, reverse-reverse, IsTrimmed, drop_spaces, trimmed_text, AreTrimmed, field_at}

start_if : (t : Bool) (b : ℕ) (bs dropped rest : List ℕ) → (b == 32) ≡ t → (dropped ≡ 32 ∷ rest → ⊥) → (if t then dropped else b ∷ bs) ≡ 32 ∷ rest → ⊥
start_if t b bs dropped rest e h k = grind (arith, cases_Bool t, nat_tests)

-- with its spaces dropped it begins with none
pub drop_spaces-start : (field rest : List ℕ) → drop_spaces field ≡ 32 ∷ rest → ⊥
drop_spaces-start [] rest h = cc
drop_spaces-start (b ∷ bs) rest h = start_if (b == 32) b bs (drop_spaces bs) rest refl (drop_spaces-start bs rest) h

-- what is dropped comes before the rest
record Drops (field : List ℕ) : Type 0 where
  spaces : List ℕ
  is : field ≡ spaces ++ drop_spaces field

drops_if : (t : Bool) (b : ℕ) (bs dropped spaces : List ℕ) → bs ≡ spaces ++ dropped → (more : List ℕ) × (b ∷ bs ≡ more ++ (if t then dropped else b ∷ bs))
drops_if true b bs dropped spaces e = (b ∷ spaces, ap (λ xs. b ∷ xs) e)
drops_if false b bs dropped spaces e = ([], refl)

drops : (field : List ℕ) → Drops field
drops [] = record { spaces = []; is = refl }
drops (b ∷ bs) = let d = drops bs in let w = drops_if (b == 32) b bs (drop_spaces bs) d.spaces d.is in record { spaces = w.0; is = w.1 }

trimmed_start : (inner rest : List ℕ) → ((more : List ℕ) → inner ≡ 32 ∷ more → ⊥) → reverse (drop_spaces (reverse inner)) ≡ 32 ∷ rest → ⊥
trimmed_start inner rest first h =
    let d = drops (reverse inner) in
    let kept = drop_spaces (reverse inner) in
    let whole : inner ≡ reverse kept ++ reverse d.spaces = sym (reverse-reverse inner) ∙ ap reverse d.is ∙ reverse-append d.spaces kept in
    first (rest ++ reverse d.spaces) (whole ∙ ap (λ xs. xs ++ reverse d.spaces) h)

trimmed_end : (turned rest : List ℕ) → ((more : List ℕ) → turned ≡ 32 ∷ more → ⊥) → reverse turned ≡ rest ++ 32 ∷ [] → ⊥
trimmed_end turned rest first h =
    first (reverse rest) (sym (reverse-reverse turned) ∙ ap reverse h ∙ reverse-append rest (32 ∷ []))

pub IsTrimmed-trimmed_text : (field : List ℕ) → IsTrimmed (trimmed_text field)
IsTrimmed-trimmed_text field = grind (arith, common_steps, trimmed_start, drop_spaces-start, trimmed_end)

pub IsTrimmed-nil : IsTrimmed []
IsTrimmed-nil = IsTrimmed-trimmed_text []

drop_none : (field : List ℕ) → ((rest : List ℕ) → field ≡ 32 ∷ rest → ⊥) → drop_spaces field ≡ field
drop_none [] h = refl
drop_none (b ∷ bs) h = grind arith

-- nothing is trimmed from it
pub trimmed_text-IsTrimmed : (field : List ℕ) → IsTrimmed field → trimmed_text field ≡ field
trimmed_text-IsTrimmed field t =
    let inner : drop_spaces field ≡ field = drop_none field t.start in
    let turned : drop_spaces (reverse field) ≡ reverse field
    = drop_none (reverse field) (λ rest h. t.end (reverse rest) (sym (reverse-reverse field) ∙ ap reverse h ∙ reverse-append (32 ∷ []) rest)) in
    ap (λ xs. reverse (drop_spaces (reverse xs))) inner ∙ ap reverse turned ∙ reverse-reverse field

trimmed_field : (row : List (List ℕ)) (k : ℕ) → IsTrimmed (slice_index_or (map trimmed_text row) k [])
trimmed_field [] k = IsTrimmed-nil
trimmed_field (f ∷ fs) zero = IsTrimmed-trimmed_text f
trimmed_field (f ∷ fs) (suc k) = trimmed_field fs k

-- the fields of a table are trimmed
pub AreTrimmed-map : (raw : List (List (List ℕ))) → AreTrimmed (map (λ row. map trimmed_text row) raw)
AreTrimmed-map [] i k = IsTrimmed-nil
AreTrimmed-map (row ∷ rows) zero k = trimmed_field row k
AreTrimmed-map (row ∷ rows) (suc i) k = AreTrimmed-map rows i k

-- and so is a field under a column
pub IsTrimmed-field : (t : List (List (List ℕ))) (column : Option ℕ) (i : ℕ) → AreTrimmed t → IsTrimmed (field_at t column i)
IsTrimmed-field t column i h = grind (arith, IsTrimmed-nil)
