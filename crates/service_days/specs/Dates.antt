-- The exceptions of `calendar_dates.txt`: days that are added to a service, or removed.
use Rattle.std.specs.{Prelude.{ℕ, ℤ, pos, ◌+◌, ◌&&◌, Bool, false, List, [], Option, Result, Ok, ◌∷◌}, Option.option_or, Ordering.int_eq, Str.bytes_eq}
use Rattle.std.specs.Result.{result_err}
use Rattle.plan_model.specs.Results.{require, value_or}
use Rattle.clock_text.specs.Times.{date_at}
use Rattle.csv_rows.specs.declared.{columns.Column.TheVariants.{ServiceId, Date, ExceptionType}, feed_tables.Table.TheVariants.CalendarDates}
use Rattle.csv_rows.specs.{declared.feed_tables.FeedFault.{FeedFault, TheVariants.BadField}, Lists.{first_below, any_below}, Ids.name_in}
use Rattle.csv_rows.specs.{RowFaults.first_missing, Tables.{row_count, index_of, field_at}}
use Rattle.service_days.specs.{declared.dates.DateColumns.DateColumns, CalendarForms.adds_in}
use mathlib.Core.Bool.{beq}

-- a service, a day, and whether it is added or removed
pub record ServiceDate : Type 0 where
  pub service : List ℕ
  pub day : ℤ
  pub adds : Bool

-- the exception of these fields, or the first that is not of its form
abbrev pub date_from : ℕ → (service date kind : List ℕ) → Result ServiceDate FeedFault
date_from line service date kind =
    require (name_in service) (BadField CalendarDates line ServiceId) (λ service'.
    require (date_at date) (BadField CalendarDates line Date) (λ day.
    require (adds_in kind) (BadField CalendarDates line ExceptionType) (λ adds.
    Ok (record { service = service'; day = day; adds = adds }))))

-- the indexes of the columns
abbrev pub date_columns : List (List (List ℕ)) → DateColumns
date_columns t = record { service = index_of ServiceId t; date = index_of Date t; kind = index_of ExceptionType t }

-- the exception of row i
abbrev pub date_in : List (List (List ℕ)) → DateColumns → ℕ → Result ServiceDate FeedFault
date_in t c i = date_from (i + 2) (field_at t c.service i) (field_at t c.date i) (field_at t c.kind i)

unfoldable pub date_at_row : List (List (List ℕ)) → ℕ → Result ServiceDate FeedFault
date_at_row t i = date_in t (date_columns t) i

-- the first field of row i that is not of its form
abbrev pub bad_date : List (List (List ℕ)) → ℕ → Option FeedFault
bad_date t i = result_err (date_at_row t i)

-- the exception of a row whose fields are of their forms
abbrev pub date_or_none : Result ServiceDate FeedFault → ServiceDate
date_or_none r = value_or (record { service = []; day = pos 0; adds = false }) r

abbrev pub date_of : List (List (List ℕ)) → ℕ → ServiceDate
date_of t i = date_or_none (date_at_row t i)

-- whether an exception adds a day to a service, or removes it
abbrev pub is_for : ServiceDate → List ℕ → ℤ → Bool → Bool
is_for d service day adds = bytes_eq d.service service && (int_eq d.day day && beq d.adds adds)

-- whether one of the first n rows does
abbrev pub is_excepted : List (List (List ℕ)) → ℕ → List ℕ → ℤ → Bool → Bool
is_excepted t n service day adds = any_below (λ i. is_for (date_of t i) service day adds) n

-- the first fault of the exceptions
unfoldable pub dates_fault : List (List (List ℕ)) → Option FeedFault
dates_fault t = option_or (first_missing CalendarDates t (ServiceId ∷ Date ∷ ExceptionType ∷ [])) (first_below (bad_date t) (row_count t))
