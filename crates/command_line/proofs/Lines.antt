-- A line is a command and its settings, and the other way round.
use Rattle.command_line.proofs.Common.{◌≡◌, ◌≢◌, ℕ, suc, List, [], ◌∷◌, arith, refl, ap, sym, ◌∙◌, Option, Some, None, Bool, true, IsTrue, slice_get, is_none, if◌then◌else◌, All, AllPairs}
use Rattle.command_line.proofs.Common.{flat_map, find, bytes_eq, position_or_len, OptionName, option_name, option_named, all_options, Setting, spelled, value_of, value_in, is_new, are_settings}
use Rattle.std.proofs.lemmas.{Bool.{false≢true, and_parts, false_from_ne_true}, Option.{get_or_from_slice_get, slice_get_within}, List.{Folds.find_at, Recursion.found_nowhere}}
use Rattle.std.proofs.lemmas.{List.{Sums.passes_at_first, Elements.{All-nil, All-cons}, Kept.AllPairs-cons}, Slice.Eq.bytes_eq-Decides}

-- the word of an option names it
named : (option : OptionName) → option_named (option_name option) ≡ Some option
named option = grind arith

-- options of one word are one
same_option : (a b : OptionName) → option_name a ≡ option_name b → a ≡ b
same_option a b same = let one = sym (named a) ∙ ap option_named same ∙ named b in cc

find-passes : {X : Type 0} (p : X → Bool) (xs : List X) (x : X) → find p xs ≡ Some x → p x ≡ true
find-passes p xs x found =
    let at : slice_get xs (position_or_len p xs) ≡ Some x = sym (find_at p xs) ∙ found in
    ap p (sym (get_or_from_slice_get xs (position_or_len p xs) x x at)) ∙ passes_at_first p xs x (slice_get_within xs (position_or_len p xs) x at)

-- a word that names an option is its word
word_is : (word : List ℕ) (option : OptionName) → option_named word ≡ Some option → word ≡ option_name option
word_is word option is = (bytes_eq-Decides word (option_name option)).0 (find-passes (λ o. bytes_eq word (option_name o)) all_options option is)

none_is : {T : Type 0} (o : Option T) → IsTrue (is_none o) → o ≡ None
none_is o is = grind arith

-- no setting has the option
abbrev IsWithout : List Setting → OptionName → Type 0
IsWithout given option = All (λ s. option ≢ s.option) given

without : (given : List Setting) (option : OptionName) → IsWithout given option → value_in given option ≡ None
unfolding value_in
without given option none =
    let d : Setting = record { option = option; value = [] } in
    found_nowhere (λ (given : List Setting). value_in given option) (λ s. bytes_eq (option_name s.option) (option_name option)) (λ s. Some s.value) None refl (λ _ _. refl) given d (λ k l.
    false_from_ne_true _ (λ e. none k d l (same_option option _ (sym ((bytes_eq-Decides _ (option_name option)).0 e)))))

is_without_at : (s : Setting) (given : List Setting) (option : OptionName) (b : Bool) → bytes_eq (option_name s.option) (option_name option) ≡ b
    → value_in (s ∷ given) option ≡ None → (value_in given option ≡ None → IsWithout given option) → IsWithout (s ∷ given) option
unfolding value_in
is_without_at s given option b e none rest = grind (arith, bytes_eq-Decides, All-cons)

is_without : (given : List Setting) (option : OptionName) → value_in given option ≡ None → IsWithout given option
unfolding value_in
is_without [] option none = All-nil _
is_without (s ∷ given) option none = is_without_at s given option (bytes_eq (option_name s.option) (option_name option)) refl none (is_without given option)

-- the words of settings in which no option comes twice
pub settings_hold : (given : List Setting) → AllPairs (λ a b. a.option ≢ b.option) given →
    IsTrue (are_settings (flat_map spelled given)) × ((option : OptionName) → value_of (flat_map spelled given) option ≡ value_in given option)
unfolding are_settings value_of value_in
settings_hold [] once = (refl, λ option. refl)
settings_hold (s ∷ given) once =
    let rest = settings_hold given (λ i j d before within. once (suc i) (suc j) d (omega arith) (omega arith)) in
    let none : IsWithout given s.option = λ k d within. once 0 (suc k) d (omega arith) (omega arith) in
    let fresh : is_new (option_named (option_name s.option)) (flat_map spelled given) ≡ true =
    ap (λ (o : Option OptionName). is_new o (flat_map spelled given)) (named s.option) ∙ ap is_none (rest.1 s.option ∙ without given s.option none) in
    (rw (fresh, rest.0) refl, λ option. ap (λ (o : Option (List ℕ)). if bytes_eq (option_name s.option) (option_name option) then Some s.value else o) (rest.1 option))

-- the settings of words
pub record AreRead (words : List (List ℕ)) (given : List Setting) : Type 0 where
  pub words_are : words ≡ flat_map spelled given
  pub once : AllPairs (λ a b. a.option ≢ b.option) given
  pub values : (option : OptionName) → value_of words option ≡ value_in given option

read_pair : (name value : List ℕ) (others : List (List ℕ)) (o : Option OptionName) → option_named name ≡ o → IsTrue (is_new o others)
    → (given : List Setting) → AreRead others given → (all : List Setting) × AreRead (name ∷ value ∷ others) all
unfolding value_of value_in
read_pair name value others None e fresh given read = absurd (false≢true fresh)
read_pair name value others (Some option) e fresh given read =
    let word = word_is name option e in
    let s : Setting = record { option = option; value = value } in
    let absent : value_of others option ≡ None = none_is (value_of others option) fresh in
    let none : IsWithout given option = is_without given option (sym (read.values option) ∙ absent) in (
      s ∷ given,
      record {
        words_are = ap (λ (w : List ℕ). w ∷ value ∷ others) word ∙ ap (λ (rest : List (List ℕ)). option_name option ∷ value ∷ rest) read.words_are;
        once = AllPairs-cons (λ (a b : Setting). a.option ≢ b.option) s given none read.once;
        values = λ other. grind arith;
      },
    )

pub read_settings : (words : List (List ℕ)) → IsTrue (are_settings words) → (given : List Setting) × AreRead words given
unfolding are_settings value_of value_in
read_settings [] are = ([], record { words_are = refl; once = λ i j d before within. absurd (omega arith); values = λ option. refl })
read_settings (name ∷ []) are = absurd (false≢true are)
read_settings (name ∷ value ∷ others) are =
    let parts = and_parts (is_new (option_named name) others) (are_settings others) are in
    let rest = read_settings others parts.1 in
    read_pair name value others (option_named name) refl parts.0 rest.0 rest.1
