-- A line of words: a command, and pairs of an option and its value.
use Rattle.std.specs.Prelude.{◌≡◌, ◌≢◌, ℕ, List, [], ◌∷◌, Option, Some, None, Bool, true, false, ◌&&◌, is_none, is_some, unwrap_or, if◌then◌else◌, AllPairs}
use Rattle.std.specs.{List.flat_map, Str.bytes_eq}
use Rattle.command_line.specs.{declared.options.OptionName.OptionName, Options.{option_name, option_named}}

-- an option with its value
pub record Setting : Type 0 where
  pub option : OptionName
  pub value : List ℕ

-- the two words of a setting
abbrev pub spelled : Setting → List (List ℕ)
spelled s = option_name s.option ∷ s.value ∷ []

-- the words are a command and then settings, in which no option comes twice
pub record IsLine (words : List (List ℕ)) (command : List ℕ) (given : List Setting) : Type 0 where
  pub words_are : words ≡ command ∷ flat_map spelled given
  pub once : AllPairs (λ a b. a.option ≢ b.option) given

-- the value that the words after the command give to an option
unfoldable pub value_of : List (List ℕ) → OptionName → Option (List ℕ)
value_of [] option = None
value_of (name ∷ []) option = None
value_of (name ∷ value ∷ others) option = if bytes_eq name (option_name option) then Some value else value_of others option

-- the words after the command give a value to an option
abbrev pub is_given : List (List ℕ) → OptionName → Bool
is_given settings option = is_some (value_of settings option)

-- the value of an option, and nothing where it has none
abbrev pub text_of : List (List ℕ) → OptionName → List ℕ
text_of settings option = unwrap_or (value_of settings option) []

-- the value that settings give to an option
unfoldable pub value_in : List Setting → OptionName → Option (List ℕ)
value_in [] option = None
value_in (s ∷ others) option = if bytes_eq (option_name s.option) (option_name option) then Some s.value else value_in others option

-- an option that no later pair has
abbrev pub is_new : Option OptionName → List (List ℕ) → Bool
is_new None others = false
is_new (Some option) others = is_none (value_of others option)

-- the words after the command are pairs of an option and a value, each option at most once
unfoldable pub are_settings : List (List ℕ) → Bool
are_settings [] = true
are_settings (name ∷ []) = false
are_settings (name ∷ value ∷ others) = is_new (option_named name) others && are_settings others
