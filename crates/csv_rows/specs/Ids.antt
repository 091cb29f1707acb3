-- Fields that name something, texts, and ids by their numbers.
use Rattle.std.specs.{Prelude.{ℕ, ◌==◌, List, length, Option, Some, None, if◌then◌else◌, All}, Str.is_utf8}
use Rattle.plan_model.specs.NameLists.{IsNameList, IsTrimmed}

-- a name is UTF-8 and not empty
abbrev pub name_in : List ℕ → Option (List ℕ)
name_in text = if length text == 0 then None else if is_utf8 text then Some text else None

-- a text, which may be empty
abbrev pub text_in : List ℕ → Option (List ℕ)
text_in text = if is_utf8 text then Some text else None

-- no id comes twice, none begins or ends with a space, and their numbers fit
pub record AreIds (ids : List (List ℕ)) : Type 0 where
  pub names : IsNameList ids
  pub trimmed : All IsTrimmed ids
