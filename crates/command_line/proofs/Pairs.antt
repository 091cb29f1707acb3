-- Words as a name, a value and the others.
use Rattle.command_line.proofs.Common.{◌≡◌, ℕ, suc, ◌-◌, ◌<◌, ◌≤◌, List, ◌∷◌, length, map, string_bytes, arith, refl, ap, sym, ◌∙◌, Option, Some, None, Bool, true, false, take, drop, get_or}
use Rattle.command_line.proofs.Common.{String, is_none, is_some, not, option_map, ◌&&◌, ◌==◌, bytes_eq, Global, OptionName, option_name, option_named, value_of, is_new, are_settings}
use Rattle.std.proofs.Math.Seq.{take-length}

-- the words after the first two
abbrev pub others : List (String Global) → List (List ℕ)
others words = map string_bytes (take (length words - 2) (drop 2 words))

-- words of which there are two at least: this name with its bytes, and this value
pub record IsPair (words : List (String Global)) (name value : String Global) (word : List ℕ) : Type 0 where
  pub two : 2 ≤ length words
  pub name_is : name ≡ get_or words 0 name
  pub value_is : value ≡ get_or words 1 value
  pub word_is : word ≡ string_bytes name

pair_first : (words : List (String Global)) (name value : String Global) (word : List ℕ) → IsPair words name value word → map string_bytes words ≡ word ∷ string_bytes value ∷ others words
pair_first (a ∷ b ∷ more) name value word p =
    let all : suc (suc (length more)) - 2 ≡ length more = omega arith in
    grind (arith, take-length)
pair_first _ name value word p = absurd (omega (arith, p.two))

pub value_of-short : (words : List (String Global)) (option : OptionName) → length words < 2 → value_of (map string_bytes words) option ≡ None
unfolding value_of
value_of-short (a ∷ b ∷ more) option short = absurd (omega arith)
value_of-short _ option short = refl

pub are_settings-short : (words : List (String Global)) (none : Bool) → length words < 2 → none ≡ (length words == 0) → none ≡ are_settings (map string_bytes words)
unfolding are_settings
are_settings-short (a ∷ b ∷ more) none short is = absurd (omega arith)
are_settings-short _ none short is = is

is_none-map : {T U : Type 0} (f : T → U) (o : Option T) → is_none (option_map f o) ≡ not (is_some o)
is_none-map f o = grind arith

module _ (words : List (String Global)) (name value : String Global) (word : List ℕ) (p : IsPair words name value word) where
  -- the first pair has the option
  pub value_of-found : (option : OptionName) (known text : List ℕ) → known ≡ option_name option → true ≡ bytes_eq word known → text ≡ string_bytes value
      → Some text ≡ value_of (map string_bytes words) option
  unfolding value_of
  value_of-found option known text is same t = grind (arith, pair_first)

  -- the first pair has another one
  pub value_of-other : (option : OptionName) (known : List ℕ) → known ≡ option_name option → false ≡ bytes_eq word known → value_of (others words) option ≡ value_of (map string_bytes words) option
  unfolding value_of
  value_of-other option known is same = let test : bytes_eq word (option_name option) ≡ false = (cc) in rw (pair_first words name value word p, test) refl

  -- of a pair and the others
  are_settings-of : (o : Option OptionName) → option_named word ≡ o → are_settings (map string_bytes words) ≡ (is_new o (others words) && are_settings (others words))
  unfolding are_settings
  are_settings-of o is = rw (pair_first words name value word p, is) refl

  -- a first word that names no option
  pub are_settings-unknown : option_named word ≡ None → false ≡ are_settings (map string_bytes words)
  are_settings-unknown none = sym (are_settings-of None none)

  -- a first word that names an option, by what the others give to it
  pub are_settings-known : {T : Type 0} (shown : T → List ℕ) (found : Option T) (option : OptionName) → option_named word ≡ Some option
      → option_map shown found ≡ value_of (others words) option → are_settings (map string_bytes words) ≡ (not (is_some found) && are_settings (others words))
  are_settings-known shown found option some is =
      are_settings-of (Some option) some ∙ ap (λ (b : Bool). b && are_settings (others words)) (sym (ap is_none is) ∙ is_none-map shown found)
