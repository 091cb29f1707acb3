-- Texts that are there, and texts that are not.
use Rattle.plan_model.proofs.Common.{◌≡◌, ℕ, ◌<◌, ◌-◌, ◌^◌, true, false, Option, Some, None, String, List, [], ◌∷◌, ◌++◌, length, get_or, ap, ◌∙◌, Contains, is_some, slice_get, IfSome, IfNone}
use Rattle.plan_model.proofs.{Common.{arith, Global, string_bytes, get_or_default, slice_get_within, get_or_from_slice_get, slice_get-get_or, texts}, Texts.{IsNameList-adds, texts_are_utf8}}
use Rattle.plan_model.proofs.Texts.{texts-push}
use Rattle.plan_model.specs.NameLists.{AreTexts}

-- a text that has a number is there
pub there_by_number : (texts : List (List ℕ)) (text : List ℕ) (number : Option ℕ) → true ≡ is_some number
    → IfSome number (λ n. slice_get texts n ≡ Some text) → Contains texts text
there_by_number texts text (Some n) is_there found = (n, slice_get_within texts n text found, get_or_from_slice_get texts n text text found)
there_by_number texts text None is_there found = absurd (cc)

-- and one that has none is not
pub absent_by_number : (texts : List (List ℕ)) (text : List ℕ) (number : Option ℕ) → false ≡ is_some number → IfNone number (¬ Contains texts text)
    → ¬ Contains texts text
absent_by_number texts text number is_none absent = grind arith

-- what a walk finds, and what it does not
pub found_at : (texts : List (List ℕ)) (text : List ℕ) (i : ℕ) → i < length texts → get_or texts i [] ≡ text → slice_get texts i ≡ Some text
found_at texts text i inside same = slice_get-get_or texts i [] inside ∙ ap Some same

pub absent_by_walk : (texts : List (List ℕ)) (text : List ℕ) → ((k : ℕ) → k < length texts → get_or texts k [] ≡ text → ⊥) → ¬ Contains texts text
absent_by_walk texts text none c = none c.0 c.1 (get_or_default texts c.0 [] text c.1 ∙ c.2)

-- one more text
pub texts_more : (old new : List (String Global)) (k : String Global) (text : List ℕ) → string_bytes k ≡ text → new ≡ old ++ k ∷ []
    → texts new ≡ texts old ++ text ∷ []
texts_more old new k text same last = ap texts last ∙ texts-push old k ∙ ap (λ (x : List ℕ). texts old ++ x ∷ []) same

pub AreTexts-push : (old new : List (String Global)) (k : String Global) (text : List ℕ) → string_bytes k ≡ text → new ≡ old ++ k ∷ []
    → AreTexts (texts old) → length (texts old) < 2 ^ 32 - 1 → ¬ Contains (texts old) text → AreTexts (texts new)
AreTexts-push old new k text same last h room absent = record {
  names = IsNameList-adds (texts old) (texts new) text true h.names room (texts_more old new k text same last, absent);
  utf8 = texts_are_utf8 new;
}
