-- The text of a date is eight digits, and the names of runs.
use Rattle.connections.proofs.Common.{◌≡◌, ℕ, zero, suc, ◌<◌, true, List, [], ◌∷◌, ◌++◌, length, take, drop, Some, ℤ, pos, negsuc, ◌+ℤ◌, ◌≤ℤ◌, refl, arith, IsAscii, list_all, is_ascii_digit}
use Rattle.connections.proofs.Common.{nat_tests, ints, and_parts, eqb-true, and_from, date_at, HasDate, ServiceDay, IsDay}
use Rattle.std.proofs.lemmas.List.Folds.{list_all-append}
use Rattle.jiff_core.specs.Calendar.{days_from_civil, day_count, days_of_years, days_of_months}
use Rattle.clock_text.specs.Civil.{parts_of_day}
use Rattle.clock_text.proofs.{OneText.if_cases, Walk.found}

-- the days of 1969 are its last seven
days_before : (k : ℕ) → k < 7 → HasDate (negsuc k)
unfolding days_from_civil day_count days_of_years days_of_months
days_before zero h = (1969, 12, 31, refl)
days_before (suc zero) h = (1969, 12, 30, refl)
days_before (suc (suc zero)) h = (1969, 12, 29, refl)
days_before (suc (suc (suc zero))) h = (1969, 12, 28, refl)
days_before (suc (suc (suc (suc zero)))) h = (1969, 12, 27, refl)
days_before (suc (suc (suc (suc (suc zero))))) h = (1969, 12, 26, refl)
days_before (suc (suc (suc (suc (suc (suc zero)))))) h = (1969, 12, 25, refl)
days_before (suc (suc (suc (suc (suc (suc (suc k))))))) h = absurd (omega arith)

date_of : (day : ℤ) → pos 0 ≤ℤ (day +ℤ pos 7) → day ≤ℤ pos 2932896 → HasDate day
date_of (pos day) from to = let w = found day 0 (omega (arith, ints, to)) in let p = parts_of_day day 0 in (p.year, p.month, p.day, w.date)
date_of (negsuc k) from to = days_before k (omega (arith, ints, from))

pub has_date : (day : ServiceDay) → IsDay day → HasDate day.number
has_date day is = date_of day.number is.from is.to

eight : (t : List ℕ) → length t ≡ 8 → t ≡ take 4 t ++ (take 2 (drop 4 t) ++ take 2 (drop 6 t))
eight (a ∷ b ∷ c ∷ d ∷ e ∷ f ∷ g ∷ h ∷ []) l = refl
eight t l = absurd (omega arith)

pub record IsDateText (t : List ℕ) : Type 0 where
  pub size : length t ≡ 8
  pub digits : list_all is_ascii_digit t ≡ true

pub date_text : (t : List ℕ) (day : ℤ) → date_at t ≡ Some day → IsDateText t
date_text t day h = grind (arith, list_all, is_ascii_digit, and_parts, if_cases, eqb-true, eight, list_all-append, and_from)

digit_few : (c : ℕ) → is_ascii_digit c ≡ true → c < 128
digit_few c h = grind (arith, nat_tests)

ascii_of : (t : List ℕ) → list_all is_ascii_digit t ≡ true → IsAscii t
ascii_of [] h i = omega arith
ascii_of (c ∷ t) h zero = digit_few c (and_parts _ _ h).0
ascii_of (c ∷ t) h (suc i) = ascii_of t (and_parts _ _ h).1 i

pub date_is_ascii : (t : List ℕ) (day : ℤ) → date_at t ≡ Some day → IsAscii t
date_is_ascii t day h = ascii_of t (date_text t day h).digits
