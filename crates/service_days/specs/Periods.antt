-- The periods of `calendar.txt`: on which weekdays of which range of days a service runs.
use Rattle.std.specs.{Prelude.{ℕ, ℤ, pos, ◌+◌, ◌==◌, ◌&&◌, int_le, Bool, false, List, Option, Result, Ok, Err, if◌then◌else◌, [], ◌∷◌}, Option.option_or}
use Rattle.std.specs.{Str.bytes_eq, Result.result_err}
use Rattle.plan_model.specs.Results.{require, value_or}
use Rattle.jiff_core.specs.Calendar.{weekday_number}
use Rattle.clock_text.specs.Times.{date_at}
use Rattle.csv_rows.specs.declared.columns.Column.{Column, TheVariants.{ServiceId, Monday, Tuesday, Wednesday, Thursday, Friday, Saturday, Sunday, StartDate}}
use Rattle.csv_rows.specs.declared.{columns.Column.TheVariants.EndDate, feed_tables.{Table.TheVariants.Calendar, FeedFault.{FeedFault, TheVariants.BadField}}}
use Rattle.csv_rows.specs.{Lists.{first_below, list_below}, Ids.name_in, RowFaults.{first_missing, repeated_id}, Tables.{row_count, index_of, field_at, field}}
use Rattle.service_days.specs.{declared.periods.{Week.Week, Period.Period, PeriodColumns.PeriodColumns}, CalendarForms.weekday_flag_in}

-- the flag of a weekday, from 0 for Monday to 6 for Sunday
abbrev pub flag_of : Week → ℕ → Bool
flag_of w day =
    if day == 0 then w.monday else if day == 1 then w.tuesday else if day == 2 then w.wednesday else if day == 3 then w.thursday
    else if day == 4 then w.friday else if day == 5 then w.saturday else w.sunday

-- whether the range holds the day, both ends included, and the flag of the day's weekday is 1
abbrev pub runs_in_period : Period → ℤ → Bool
runs_in_period p day = int_le p.first day && (int_le day p.last && flag_of p.week (weekday_number day))

-- the flags of these fields, or the first that is not of its form
abbrev pub week_from : ℕ → (monday tuesday wednesday thursday friday saturday sunday : List ℕ) → Result Week FeedFault
week_from line monday tuesday wednesday thursday friday saturday sunday =
    require (weekday_flag_in monday) (BadField Calendar line Monday) (λ mon.
    require (weekday_flag_in tuesday) (BadField Calendar line Tuesday) (λ tue.
    require (weekday_flag_in wednesday) (BadField Calendar line Wednesday) (λ wed.
    require (weekday_flag_in thursday) (BadField Calendar line Thursday) (λ thu.
    require (weekday_flag_in friday) (BadField Calendar line Friday) (λ fri.
    require (weekday_flag_in saturday) (BadField Calendar line Saturday) (λ sat.
    require (weekday_flag_in sunday) (BadField Calendar line Sunday) (λ sun.
    Ok (record { monday = mon; tuesday = tue; wednesday = wed; thursday = thu; friday = fri; saturday = sat; sunday = sun }))))))))

-- what is read after the flags
abbrev pub after_week : Result Week FeedFault → (Week → Result Period FeedFault) → Result Period FeedFault
after_week (Ok week) rest = rest week
after_week (Err fault) rest = Err fault

-- the period of these fields and flags, or the first that is not of its form
abbrev pub period_from : ℕ → (service : List ℕ) → Result Week FeedFault → (first last : List ℕ) → Result Period FeedFault
period_from line service week first last =
    require (name_in service) (BadField Calendar line ServiceId) (λ _.
    after_week week (λ week'.
    require (date_at first) (BadField Calendar line StartDate) (λ from.
    require (date_at last) (BadField Calendar line EndDate) (λ to.
    Ok (record { week = week'; first = from; last = to })))))

-- the indexes of the columns
abbrev pub period_columns : List (List (List ℕ)) → PeriodColumns
period_columns t = record {
  service = index_of ServiceId t;
  monday = index_of Monday t;
  tuesday = index_of Tuesday t;
  wednesday = index_of Wednesday t;
  thursday = index_of Thursday t;
  friday = index_of Friday t;
  saturday = index_of Saturday t;
  sunday = index_of Sunday t;
  first = index_of StartDate t;
  last = index_of EndDate t;
}

-- the flags and the period of row i
abbrev pub week_in : List (List (List ℕ)) → PeriodColumns → ℕ → Result Week FeedFault
week_in t c i =
    week_from (i + 2) (field_at t c.monday i) (field_at t c.tuesday i) (field_at t c.wednesday i) (field_at t c.thursday i) (field_at t c.friday i)
    (field_at t c.saturday i) (field_at t c.sunday i)

abbrev pub period_in : List (List (List ℕ)) → PeriodColumns → ℕ → Result Period FeedFault
period_in t c i = period_from (i + 2) (field_at t c.service i) (week_in t c i) (field_at t c.first i) (field_at t c.last i)

unfoldable pub period_at : List (List (List ℕ)) → ℕ → Result Period FeedFault
period_at t i = period_in t (period_columns t) i

-- the first field of row i that is not of its form
abbrev pub bad_period : List (List (List ℕ)) → ℕ → Option FeedFault
bad_period t i = result_err (period_at t i)

-- the period of a row whose fields are of their forms
abbrev pub period_or_none : Result Period FeedFault → Period
period_or_none r = value_or (record {
  week = record { monday = false; tuesday = false; wednesday = false; thursday = false; friday = false; saturday = false; sunday = false };
  first = pos 0;
  last = pos 0;
}) r

abbrev pub period_of : List (List (List ℕ)) → ℕ → Period
period_of t i = period_or_none (period_at t i)

-- the services of the rows, and their periods
abbrev pub service_ids : List (List (List ℕ)) → List (List ℕ)
service_ids t = list_below (field t ServiceId) (row_count t)

abbrev pub periods_of : List (List (List ℕ)) → List Period
periods_of t = list_below (period_of t) (row_count t)

-- whether row i lets a service run on a day
abbrev pub runs_in_row : List (List (List ℕ)) → List ℕ → ℤ → ℕ → Bool
runs_in_row t service day i = bytes_eq (field t ServiceId i) service && runs_in_period (period_of t i) day

-- the columns that have to be there
abbrev pub required_columns : List Column
required_columns = ServiceId ∷ Monday ∷ Tuesday ∷ Wednesday ∷ Thursday ∷ Friday ∷ Saturday ∷ Sunday ∷ StartDate ∷ EndDate ∷ []

-- the first fault of the calendar
unfoldable pub calendar_fault : List (List (List ℕ)) → Option FeedFault
calendar_fault t =
    option_or (first_missing Calendar t required_columns)
    (option_or (first_below (bad_period t) (row_count t))
    (first_below (repeated_id Calendar (field t ServiceId)) (row_count t)))
