-- Dates from 1970 on.
use Rattle.clock_text.proofs.Common.{◌≡◌, ℕ, ◌<◌, ◌≤◌, ◌⊎◌, inl, inr, arith, rules, pos, negsuc, ℤ, ◌≤ℤ◌, ◌<ℤ◌, true, Some, unsigned_abs, cases_order, by_lt_z, epoch_day-lt, nat_tests}
use Rattle.clock_text.proofs.Common.{days_from_civil, day_count, days_in_month, IsEpochDay, epoch_day, Date, has_date, day_of, signed_arith, days_from_civil-day_count, day_count-later_year}
use Rattle.clock_text.proofs.Common.{day_count-day_of_year, day_count-epoch}

-- a later year counts more days
year_counts : (y m d : ℕ) → 1 ≤ d → (1970 ≡ y) ⊎ ((1970 < y) ⊎ (y < 1970)) → 1970 ≤ y → day_count (pos 1970) 1 1 ≤ day_count (pos y) m d
year_counts y m d low (inl same) h = rw (← same) (omega (arith, day_count-day_of_year (pos 1970) m d low))
year_counts y m d low (inr (inl later)) h =
    omega (arith, day_count-day_of_year (pos y) m d low, day_count-later_year (pos 1970) (pos y) (search rules) (omega (arith, signed_arith)))
year_counts y m d low (inr (inr before)) h = absurd (omega arith)

-- a date from 1970 on has a day number from 0 on
pub after_epoch : (y m d : ℕ) → 1970 ≤ y → 1 ≤ d → pos 0 ≤ℤ days_from_civil (pos y) m d
after_epoch y m d h low = omega (arith, signed_arith, days_from_civil-day_count, day_count-epoch, year_counts y m d low (cases_order 1970 y) h)

pub has_date_true : (y m k : ℕ) → y ≤ 9999 → 1 ≤ m → m ≤ 12 → 1 ≤ k → k ≤ days_in_month (pos y) m → has_date y m k ≡ true
has_date_true y m k a b c d e = grind (arith, nat_tests)

-- the number of a date that has these parts
pub day_is : (date : Date) (y m k : ℕ) → date.year ≡ pos y → pos date.month ≡ pos m → pos date.day ≡ pos k → (r : ℤ) → r ≡ epoch_day date → Some r ≡ day_of y m k
day_is date y m k a b c r e = grind (arith, pos, ℤ, signed_arith, has_date_true)

epoch : Date
epoch = record { year = pos 1970; month = 1; day = 1; year_in = search rules; month_in = search rules; day_in = search rules }

epoch_is : epoch_day epoch ≡ pos 0
unfolding epoch
epoch_is = omega (arith, signed_arith, days_from_civil-day_count, day_count-epoch)

-- a day number is no greater than the days that a span may have
pub day_size : (day : ℤ) → IsEpochDay day → unsigned_abs day ≤ 7_304_484
day_size day h = grind (arith, signed_arith, negsuc)

-- the day number of the first day of 1970
pub epoch_day_zero : (d : Date) → d.year ≡ pos 1970 → pos d.month ≡ pos 1 → pos d.day ≡ pos 1 → epoch_day d ≡ pos 0
epoch_day_zero d a b c = grind (arith, pos, signed_arith, days_from_civil-day_count, day_count-epoch)

-- a day number from 0 on is of a year from 1970 on
pub year_from : (d : Date) → pos 0 ≤ℤ epoch_day d → pos 1970 ≤ℤ d.year
unfolding epoch
year_from d h = by_lt_z d.year (pos 1970) (λ lt. absurd (let k : epoch_day d <ℤ epoch_day epoch = epoch_day-lt d epoch (inl lt) in omega (arith, signed_arith, epoch_is))) (λ ge. ge)
