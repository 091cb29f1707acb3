-- The keys of an index as texts.
use Rattle.text_index.proofs.Common.{Bor, ◌≡◌, ℕ, ◌<◌, true, Some, List, [], length, get_or, take, length-take, get_or-take, sym, ap, ◌∙◌, arith, Contains, bytes_eq, slice_get, get_or-map}
use Rattle.text_index.proofs.Common.{length-map, get_or_default, AreDistinct, key_texts}
use Rattle.std.proofs.lemmas.{Option.{slice_get-get_or, slice_get_within, get_or_from_slice_get}, Slice.Eq.bytes_eq-Decides}

bytes : Bor (List ℕ) → List ℕ
bytes k = k.now

-- as many texts as keys
pub length-key_texts : (ks : List (Bor (List ℕ))) → length (key_texts ks) ≡ length ks
unfolding bytes
length-key_texts ks = length-map ks bytes

-- the text of a key
pub text_of_key : (ks : List (Bor (List ℕ))) (i : ℕ) (k : Bor (List ℕ)) → slice_get ks i ≡ Some k → slice_get (key_texts ks) i ≡ Some k.now
unfolding bytes
text_of_key ks i k h =
    let within = slice_get_within ks i k h in
    let inside : i < length (key_texts ks) = omega (arith, within, length-key_texts ks) in
    slice_get-get_or (key_texts ks) i k.now inside ∙ ap Some (get_or-map bytes ks i k k.now within ∙ ap bytes (get_or_from_slice_get ks i k k h))

pub text_of_stored : (ks : List (Bor (List ℕ))) (i : ℕ) (k : Bor (List ℕ)) (text : List ℕ) → slice_get ks i ≡ Some k → bytes_eq text k.now ≡ true → slice_get (key_texts ks) i ≡ Some text
text_of_stored ks i k text h same = text_of_key ks i k h ∙ ap Some (sym ((bytes_eq-Decides text k.now).0 same))

-- of distinct texts each is new after those before it
pub new_after_those_before : (texts : List (List ℕ)) (i : ℕ) → AreDistinct texts → i < length texts → ¬ Contains (take i texts) (get_or texts i [])
new_after_those_before texts i distinct inside there = grind (arith, length-take, get_or-take, get_or_default)
