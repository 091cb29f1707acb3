-- The keys of a set of borrowed texts.
use Rattle.csv_rows.proofs.Common.{Bor, ◌≡◌, ℕ, ◌<◌, Bool, true, false, Some, List, [], ◌∷◌, ◌++◌, length, map, get_or, refl, sym, ap, ◌∙◌, arith, Contains, bytes_eq, slice_get, position}
use Rattle.csv_rows.proofs.Common.{list_any, Adds, bytes_eq-Decides, get_or-map, length-map, map-append, position-Some, slice_get-get_or}
use Rattle.std.specs.Prelude.{if◌then◌else◌}
use Rattle.std.proofs.lemmas.List.Folds.{Any-from_list_any, list_any_at}
use Rattle.indexmap.specs.IndexSet.{insert_key}

bytes : Bor (List ℕ) → List ℕ
bytes k = k.now

-- the bytes of each
abbrev pub key_texts : List (Bor (List ℕ)) → List (List ℕ)
key_texts ks = map (λ k. k.now) ks

-- whether a text is there
abbrev pub has_key : List ℕ → List (Bor (List ℕ)) → Bool
has_key bs ks = list_any (λ k. bytes_eq bs k.now) ks

-- a text that is found is there
pub key_there : (bs : List ℕ) (ks : List (Bor (List ℕ))) → has_key bs ks ≡ true → Contains (key_texts ks) bs
unfolding bytes
key_there bs ks h = grind (arith, Any-from_list_any, bytes, bytes_eq-Decides, length-map, get_or-map)

-- and one that is not found is not
pub key_absent : (bs : List ℕ) (ks : List (Bor (List ℕ))) → has_key bs ks ≡ false → ¬ Contains (key_texts ks) bs
unfolding bytes
key_absent bs [] h c = absurd (omega (arith, c.1))
key_absent bs (x ∷ xs) h c =
    let inside : c.0 < length (x ∷ xs) = omega (arith, c.1, length-map (x ∷ xs) bytes) in
    let e : bytes (get_or (x ∷ xs) c.0 x) ≡ bs = sym (get_or-map bytes (x ∷ xs) c.0 x bs inside) ∙ c.2 in
    grind (arith, list_any_at, bytes_eq-Decides)

-- where a text is found
pub key_position : (bs : List ℕ) (ks : List (Bor (List ℕ))) (i : ℕ) → position (λ k. bytes_eq bs k.now) ks ≡ Some i → slice_get (key_texts ks) i ≡ Some bs
unfolding bytes
key_position bs [] i h = absurd (cc)
key_position bs (x ∷ xs) i h =
    let w = position-Some (λ (k : Bor (List ℕ)). bytes_eq bs (bytes k)) (x ∷ xs) i x h in
    let inside : i < length (key_texts (x ∷ xs)) = omega (arith, w.0, length-map (x ∷ xs) bytes) in
    let e : bs ≡ bytes (get_or (x ∷ xs) i x) = (bytes_eq-Decides bs (bytes (get_or (x ∷ xs) i x))).0 w.1 in
    slice_get-get_or (key_texts (x ∷ xs)) i bs inside ∙ ap Some (get_or-map bytes (x ∷ xs) i x bs w.0 ∙ sym e)

-- a new text goes last
pub key_last : (old new : List (Bor (List ℕ))) (k : Bor (List ℕ)) → has_key k.now old ≡ false
    → new ≡ insert_key (λ (a b : Bor (List ℕ)). bytes_eq a.now b.now) old k → key_texts new ≡ key_texts old ++ k.now ∷ []
unfolding bytes
key_last old new k absent inserted = grind (arith, key_texts, map-append, bytes)

-- one key is added, unless its text is there
pub key_adds : (old new : List (Bor (List ℕ))) (k : Bor (List ℕ)) → new ≡ insert_key (λ (a b : Bor (List ℕ)). bytes_eq a.now b.now) old k
    → (b : Bool) × Adds (key_texts old) (key_texts new) k.now b
key_adds old new k inserted = by (has_key k.now old) refl where
  by : (b : Bool) → has_key k.now old ≡ b → (b : Bool) × Adds (key_texts old) (key_texts new) k.now b
  by true e = (false, (ap key_texts (inserted ∙ ap (λ (b : Bool). if b then old else old ++ k ∷ []) e), key_there k.now old e))
  by false e = (true, (key_last old new k e inserted, key_absent k.now old e))
