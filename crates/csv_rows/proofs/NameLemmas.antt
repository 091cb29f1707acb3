-- Names that are not empty, and texts.
use Rattle.csv_rows.proofs.Common.{arith, ◌≡◌, ℕ, Bool, true, false, ◌==◌, List, length, Option, Some, None, if◌then◌else◌, IsUtf8, sym, ap, ◌∙◌, is_utf8, false_from_ne_true, name_in, text_in}
use Rattle.std.proofs.lemmas.Str.{IsUtf8-from_is_utf8, is_utf8-from_IsUtf8}

abbrev name_if : Bool → Bool → List ℕ → Option (List ℕ)
name_if a b text = if a then None else if b then Some text else None

pub name_some : (text x : List ℕ) → false ≡ (length text == 0) → x ≡ text → IsUtf8 text → Some x ≡ name_in text
name_some text x some e u = ap Some e ∙ ap (λ a. name_if a true text) some ∙ ap (λ b. name_if (length text == 0) b text) (sym (is_utf8-from_IsUtf8 text u))

pub name_none : (text : List ℕ) → false ≡ (length text == 0) → (IsUtf8 text → ⊥) → None ≡ name_in text
name_none text some u = grind (arith, is_utf8, false_from_ne_true, IsUtf8-from_is_utf8, name_if)

-- a text that is UTF-8, and one that is not
pub text_some : (text x : List ℕ) → x ≡ text → IsUtf8 text → Some x ≡ text_in text
text_some text x e u = ap Some e ∙ ap (λ b. if b then Some text else None) (sym (is_utf8-from_IsUtf8 text u))

pub text_none : (text : List ℕ) → (IsUtf8 text → ⊥) → None ≡ text_in text
text_none text u = grind (arith, false_from_ne_true, is_utf8, IsUtf8-from_is_utf8)
