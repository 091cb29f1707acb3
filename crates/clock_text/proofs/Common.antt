-- The names that most proofs of this crate cite, passed on from one place. Declares nothing.
pub use Rattle.std.proofs.Common.{Bool, FitsSigned, List, None, Option, Some, [], ap, arith, drop, eq-eqb, eqb-true, false, get_or, if◌then◌else◌, inl, inr, leb-true, length, ltb-false, ltb-true}
pub use Rattle.std.proofs.Common.{map, nat_eq, nat_le, nat_lt, negsuc, option_and_then, pos, refl, rules, slice_index, subst, suc, sym, take, take-append-drop, take_all, true, unsigned_abs, w16, w32}
pub use Rattle.std.proofs.{Common.{w64, w8, zero, ℕ, ℤ, ◌%◌, ◌&&◌, ◌*◌, ◌++◌, ◌+ℤ◌, ◌+◌, ◌-◌, ◌/◌, ◌<ℤ◌, ◌<◌, ◌^◌, ◌∙◌, ◌∷◌, ◌≡◌, ◌≤ℤ◌, ◌≤◌, ◌⊎◌}, lemmas.Bool.{and_from, and_left, and_parts}}
pub use Rattle.std.proofs.lemmas.{Bool.{and_right, cases_order, Decides.nat_tests}, Grind.common_steps, Int.{by_lt_z, to_z-of_z, to_z_pos}, List.{drop_more, take_more}, Option.cond_some}
pub use Rattle.std.specs.{Char.is_ascii_digit, List.{list_all, range_with_len}}
pub use Rattle.jiff_core.proofs.CalendarLemmas.{day_count-day_of_year, day_count-end, day_count-epoch, day_count-later_year, day_count-next_year, day_count_bounds, days_from_civil-day_count}
pub use Rattle.jiff_core.proofs.{CalendarLemmas.{days_in_month_bounds, days_in_year_bounds, days_of_months-zero, days_of_months_all, days_of_months_more}, DateLemmas.epoch_day-lt}
pub use Rattle.jiff_core.proofs.{DateLemmas.{epoch_day_injective, epoch_day_range}, SignedLemmas.signed_arith}
pub use Rattle.jiff_core.specs.{Calendar.{IsEpochDay, day_count, days_from_civil, days_in_month, days_in_year, days_of_months}, Date.epoch_day, declared.civil.date.Date.Date}
unfoldable pub use Rattle.jiff_core.specs.Calendar.{weekday_number}
pub use Rattle.clock_text.specs.{Civil.{moment_text, nanos_text}, Digits.{digits, number_spelled, value_of, whole_of}, Times.{HasDate, Parts, date_at, day_of, has_date, has_digits, has_marks}}
pub use Rattle.clock_text.specs.Times.{has_time, moment_at, moment_of_parts, nanos_at, nanos_of, parts_at, seconds_of_parts, seconds_of_time, text_of_parts, time_of}
unfoldable pub use Rattle.clock_text.specs.Civil.{month_from, parts_of_day, year_from}
