-- The calendars of a feed, with exceptions by the numbers of services, and on which days a service is active (GTFS Schedule reference).
use Rattle.std.specs.Prelude.{◌≡◌, ℕ, ℤ, ◌≤◌, ◌||◌, Bool, false, List, length, Option, Some, None, ◌&&◌, not, true, Result, Ok, Err, IfSome, IsOkAnd}
use Rattle.std.specs.Prelude.{if◌then◌else◌}
use Rattle.plan_model.specs.{NameLists.Adds, Results.{and_then, unless}}
use Rattle.csv_rows.specs.{Tables.{number_in, row_count, field}, declared.feed_tables.Table.{Table, TheVariants.{Stops, Routes, Trips, StopTimes, Frequencies}}}
use Rattle.csv_rows.specs.declared.feed_tables.{Table.TheVariants.{Calendar, CalendarDates, Transfers}, FeedFault.{FeedFault, TheVariants.MissingTable}}
use Rattle.csv_rows.specs.{declared.{limits.Limits.Limits, columns.Column.TheVariants.ServiceId}, FeedTables.table_of_fault, Lists.{first_below, any_below}}
use Rattle.csv_rows.specs.RowFaults.{repeated_id}
use Rattle.service_days.specs.{declared.{exceptions.Exception.Exception, periods.Period.Period}, Dates.{ServiceDate, is_excepted, dates_fault}, Exceptions.same}
use Rattle.service_days.specs.{Exceptions.{has, has_at}, Periods.{runs_in_row, service_ids, periods_of, calendar_fault}}
use Rattle.table_files.specs.{declared.loading.Loaded.{Loaded, TheVariants.{Absent, NoRecord, Found}}, Loading.{load_in, loaded_rows}}
use Rattle.file_ports.specs.Ports.{FileMap}

-- one more exception, whose service is added where it is new
pub record AddsDate (old ids : List (List ℕ)) (before after : List Exception) (d : ServiceDate) : Type 0 where
  pub new : Bool
  pub added : Adds old ids d.service new
  pub number : ℕ
  pub numbered : number_in d.service ids ≡ Some number
  pub exceptions : (e : Exception) → has after e ≡ (same (record { service = number; day = d.day; adds = d.adds }) e || has before e)

-- these are the exceptions of the first n rows, where the services before them keep their numbers
pub record AreNumbered (t : List (List (List ℕ))) (n : ℕ) (before ids : List (List ℕ)) (exceptions : List Exception) : Type 0 where
  pub is : (service : List ℕ) (day : ℤ) (adds : Bool) → has_at exceptions day adds (number_in service ids) ≡ is_excepted t n service day adds
  pub fresh : (e : Exception) → length ids ≤ e.service → has exceptions e ≡ false
  pub kept : (service : List ℕ) (asks : Option ℕ → Bool) → asks None ≡ false → ((k : ℕ) → length before ≤ k → asks (Some k) ≡ false)
      → asks (number_in service ids) ≡ asks (number_in service before)

-- a service is active on a day where a row of the calendar lets it run on that day or an exception adds the day, and no
-- exception removes it
abbrev pub is_active_service : (calendar dates : List (List (List ℕ))) → List ℕ → ℤ → Bool
is_active_service calendar dates service day =
    not (is_excepted dates (row_count dates) service day false)
    && (is_excepted dates (row_count dates) service day true || any_below (runs_in_row calendar service day) (row_count calendar))

-- no service is in two rows
abbrev pub AreDistinctRows : List (List (List ℕ)) → Type 0
AreDistinctRows t = first_below (repeated_id Calendar (field t ServiceId)) (row_count t) ≡ None

-- the rows of both tables, which are none where a table is absent
pub record Calendars : Type 0 where
  pub calendar : List (List (List ℕ))
  pub dates : List (List (List ℕ))

-- the services run on the days on which these make them active
abbrev pub RunsBy : (List ℕ → ℤ → Bool) → Calendars → Type 0
RunsBy runs c = (service : List ℕ) (day : ℤ) → runs service day ≡ is_active_service c.calendar c.dates service day

-- a table whose file has no record counts as absent
abbrev pub has_no_record : Loaded → Bool
has_no_record (Found t) = false
has_no_record Absent = true
has_no_record NoRecord = true

abbrev pub fault_of_calendar : Loaded → Option FeedFault
fault_of_calendar (Found t) = calendar_fault t
fault_of_calendar Absent = None
fault_of_calendar NoRecord = None

abbrev pub fault_of_dates : Loaded → Option FeedFault
fault_of_dates (Found t) = dates_fault t
fault_of_dates Absent = None
fault_of_dates NoRecord = None

-- each table by what was loaded of it
abbrev pub calendar_from : Result Loaded FeedFault → Result Loaded FeedFault
calendar_from loaded = and_then loaded (λ l. unless (fault_of_calendar l) l)

abbrev pub dates_from : Result Loaded FeedFault → Result Loaded FeedFault
dates_from loaded = and_then loaded (λ l. unless (fault_of_dates l) l)

-- one of the two tables is there
abbrev pub both_of : Loaded → Loaded → Result Calendars FeedFault
both_of calendar dates =
    if has_no_record calendar && has_no_record dates then Err (MissingTable Calendar)
    else Ok (record { calendar = loaded_rows calendar; dates = loaded_rows dates })

-- the tables one after the other
abbrev pub calendars_from : (calendar dates : Result Loaded FeedFault) → Result Calendars FeedFault
calendars_from calendar dates = and_then calendar (λ c. and_then dates (λ d. both_of c d))

-- the calendars of a folder, or the first of their faults
unfoldable pub calendars_in : FileMap → List ℕ → Limits → Option Table → Result Calendars FeedFault
calendars_in files folder limits unread =
    calendars_from (calendar_from (load_in files folder limits unread Calendar)) (dates_from (load_in files folder limits unread CalendarDates))

-- whatever the files say, the services run on the days of some calendars with no fault
pub record RunsBySome (runs : List ℕ → ℤ → Bool) : Type 0 where
  pub calendar : Loaded
  pub dates : Loaded
  pub runs_by : IsOkAnd (calendars_from (calendar_from (Ok calendar)) (dates_from (Ok dates))) (RunsBy runs)

-- what was read of each table
abbrev pub IsCalendar : Result Loaded FeedFault → Bool → List (List ℕ) → List Period → Type 0
IsCalendar (Ok l) missing ids periods =
    (missing ≡ has_no_record l) × (ids ≡ service_ids (loaded_rows l)) × (periods ≡ periods_of (loaded_rows l)) × AreDistinctRows (loaded_rows l)
IsCalendar (Err fault) missing ids periods = ⊥

abbrev pub AreDates : Result Loaded FeedFault → List (List ℕ) → Bool → List (List ℕ) → List Exception → Type 0
AreDates (Ok l) before missing ids exceptions =
    (missing ≡ has_no_record l) × AreNumbered (loaded_rows l) (row_count (loaded_rows l)) before ids exceptions
AreDates (Err fault) before missing ids exceptions = ⊥

-- of some table each
abbrev pub IsOfCalendar : Bool → List (List ℕ) → List Period → Type 0
IsOfCalendar missing ids periods = (l : Loaded) × IsCalendar (calendar_from (Ok l)) missing ids periods

abbrev pub AreOfDates : List (List ℕ) → Bool → List (List ℕ) → List Exception → Type 0
AreOfDates before missing ids exceptions = (l : Loaded) × AreDates (dates_from (Ok l)) before missing ids exceptions

-- the two tables
abbrev pub IsCalendarTable : Table → Type 0
IsCalendarTable Calendar = Unit {0}
IsCalendarTable CalendarDates = Unit {0}
IsCalendarTable Stops = ⊥
IsCalendarTable Routes = ⊥
IsCalendarTable Trips = ⊥
IsCalendarTable StopTimes = ⊥
IsCalendarTable Frequencies = ⊥
IsCalendarTable Transfers = ⊥

-- it is in one of these, or there was no memory
abbrev pub IsCalendarFault : FeedFault → Type 0
IsCalendarFault fault = IfSome (table_of_fault fault) IsCalendarTable
