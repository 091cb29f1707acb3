-- Printed fields: no space is at their ends, and they give their numbers.
use Rattle.printed_rows.proofs.Common.{◌≡◌, ℕ, ◌+◌, ◌-◌, ◌*◌, ◌/◌, ◌%◌, ◌<◌, ◌≤◌, ◌^◌, Bool, true, List, [], ◌∷◌, length, Some, All, arith, sym, refl, ap, ◌∙◌, nat_lt, decimal, slice_index_or}
use Rattle.printed_rows.proofs.Common.{bytes_eq, IsUtf8, le-leb, list_all, false≢true, and_parts, nat_tests, moment_text, nanos_text, parts_of_day, AreDistinct, IsTrimmed, trimmed_text}
use Rattle.printed_rows.proofs.Common.{number_of, whole_at, position_found, false_if, with_utf8}
use Rattle.std.specs.{Char.is_ascii_digit, Cmp.Lexicographic.bytes_decides}
use Rattle.std.proofs.lemmas.{Fmt.{decimal_by_steps, decimal_nonempty, length-decimal-le}, List.{Folds.list_all-append, Sums.fold-append}}
use Rattle.clock_text.specs.{Digits.{digits, value_of}, Times.{Parts, text_of_parts}}
use Rattle.csv_rows.proofs.SpaceLemmas.{trimmed_text-IsTrimmed}

-- each byte is above the space
abbrev is_plain : List ℕ → Bool
is_plain text = list_all (nat_lt 32) text

-- so none is at an end
plain_ends : (text : List ℕ) → is_plain text ≡ true → IsTrimmed text
plain_ends text plain = record {
  start = λ rest begins. false≢true (sym (ap is_plain begins) ∙ plain);
  end = λ rest ends. false≢true ((and_parts _ _ (sym (list_all-append (nat_lt 32) rest (32 ∷ [])) ∙ sym (ap is_plain ends) ∙ plain)).1);
}

pub plain_kept : (text : List ℕ) → is_plain text ≡ true → trimmed_text text ≡ text
plain_kept text plain = trimmed_text-IsTrimmed text (plain_ends text plain)

high : (n : ℕ) → nat_lt 32 (48 + n) ≡ true
high n = grind (arith, nat_tests)

digit_high : (b : ℕ) → is_ascii_digit b ≡ true → nat_lt 32 b ≡ true
digit_high b digit = grind (arith, nat_tests)

digits_plain : (text : List ℕ) → list_all is_ascii_digit text ≡ true → is_plain text ≡ true
digits_plain [] digits = refl
digits_plain (b ∷ text) digits =
    let both = and_parts (is_ascii_digit b) (list_all is_ascii_digit text) digits in
    rw (digit_high b both.0, digits_plain text both.1) refl

-- the text of a moment
parts_plain : (p : Parts) → is_plain (text_of_parts p) ≡ true
parts_plain p = simp high

pub moment_kept : (moment : ℕ) → trimmed_text (moment_text moment) ≡ moment_text moment
moment_kept moment = plain_kept (moment_text moment) (parts_plain (parts_of_day (moment / 86400) (moment % 86400)))

-- the text of nanoseconds
nine_plain : (n : ℕ) → is_plain (46 ∷ digits 9 n) ≡ true
nine_plain n = simp high

pub nanos_kept : (nanos : ℕ) → trimmed_text (nanos_text nanos) ≡ nanos_text nanos
nanos_kept nanos = plain_kept (nanos_text nanos)
    (list_all-append (nat_lt 32) (moment_text (nanos / 1_000_000_000)) (46 ∷ digits 9 (nanos % 1_000_000_000))
    ∙ (rw (parts_plain (parts_of_day (nanos / 1_000_000_000 / 86400) (nanos / 1_000_000_000 % 86400)), nine_plain (nanos % 1_000_000_000)) refl))

-- a decimal number
record IsDecimal (n : ℕ) (text : List ℕ) : Type 0 where
  digits : list_all is_ascii_digit text ≡ true
  value : value_of text ≡ n

digit_test : (n : ℕ) → n < 10 → is_ascii_digit (48 + n) ≡ true
digit_test n below = grind (arith, nat_tests)

decimal_is : (n : ℕ) → n < 2 ^ 64 → IsDecimal n (decimal n)
decimal_is n below = decimal_by_steps IsDecimal
    (λ k small. record { digits = rw (digit_test k small) refl; value = omega arith })
    (λ k front large by. record {
      digits = list_all-append is_ascii_digit front ((48 + k % 10) ∷ []) ∙ (rw (by.digits, digit_test (k % 10) (omega arith)) refl);
      value = fold-append _ 0 front ((48 + k % 10) ∷ []) ∙ ap (λ (v : ℕ). v * 10 + (48 + k % 10 - 48)) by.value ∙ omega arith;
    })
    n below

pub decimal_kept : (n : ℕ) → n < 2 ^ 64 → trimmed_text (decimal n) ≡ decimal n
decimal_kept n below = plain_kept (decimal n) (digits_plain (decimal n) (decimal_is n below).digits)

whole_by : (text : List ℕ) (n : ℕ) → 1 ≤ length text → length text ≤ 9 → IsDecimal n text → n ≤ 999999999 → whole_at text ≡ Some n
whole_by text n some few by below =
    rw (le-leb 1 (length text) some, le-leb (length text) 9 few, by.digits, by.value, le-leb n 999999999 below) refl

pub whole_back : (n : ℕ) → n ≤ 999999999 → whole_at (decimal n) ≡ Some n
whole_back n below =
    whole_by (decimal n) n (decimal_nonempty n (omega arith)) (length-decimal-le 9 n (omega arith) (omega arith) (omega arith)) (decimal_is n (omega arith)) below

-- a name gives its number
pub name_back : (names : List (List ℕ)) (i : ℕ) → AreDistinct names → All IsUtf8 names → i < length names → number_of names (slice_index_or names i []) ≡ Some i
name_back names i distinct texts within =
    with_utf8 (slice_index_or names i []) names (texts i [] within)
    ∙ position_found (λ name. bytes_eq name (slice_index_or names i [])) names 0 i []
    (λ k less. false_if (bytes_eq (slice_index_or names k []) (slice_index_or names i []))
    (λ same. distinct k i less within ((bytes_decides (slice_index_or names k []) (slice_index_or names i [])).0 same)))
    within ((bytes_decides (slice_index_or names i []) (slice_index_or names i [])).1 refl)
    ∙ ap (λ (k : ℕ). Some k) (let e : 0 + i ≡ i = omega arith in e)

pub name_kept : (names : List (List ℕ)) (i : ℕ) → All IsTrimmed names → i < length names → trimmed_text (slice_index_or names i []) ≡ slice_index_or names i []
name_kept names i all within = trimmed_text-IsTrimmed (slice_index_or names i []) (all i [] within)
