-- The calendars of a folder, by what was read of each table.
use Rattle.service_days.proofs.Common.{arith, ◌≡◌, ℕ, ◌&&◌, Bool, true, false, List, None, Ok, Err, IsOkAnd, if◌then◌else◌, sym, ap, ap₂, ◌∙◌, subst, Result, FileMap, unread_table, IsFaultOf}
use Rattle.service_days.proofs.Common.{load_in, loaded_rows, Exception, row_count, AreNumbered, ServiceParts, runs, service_ids, periods_of, Calendars, RunsBy, RunsBySome, both_of, has_no_record}
use Rattle.service_days.proofs.Common.{fault_of_calendar, fault_of_dates, calendar_from, dates_from, calendars_from, calendars_in, AreDistinctRows, IsCalendar, AreDates, IsOfCalendar, AreOfDates}
use Rattle.service_days.proofs.ActiveLemmas.{runs_is}
use Rattle.service_days.specs.declared.periods.Period.{Period}
use Rattle.plan_model.specs.Results.{and_then}
use Rattle.csv_rows.specs.declared.{feed_tables.FeedFault.FeedFault, limits.Limits.Limits}
use Rattle.table_files.specs.declared.loading.Loaded.{Loaded}
use Rattle.table_files.proofs.LoadLemmas.{load_in-other}
use Rattle.csv_rows.specs.declared.feed_tables.Table.TheVariants as table
use Rattle.csv_rows.specs.declared.feed_tables.FeedFault.TheVariants as fault

-- the table of exceptions has a fault, after a calendar with none
dates_stop : (c d : Result Loaded FeedFault) (missing : Bool) (ids : List (List ℕ)) (periods : List Period) (f : FeedFault) → IsCalendar c missing ids periods → d ≡ Err f
    → calendars_from c d ≡ Err f
dates_stop (Ok c) d missing ids periods f h k = ap (λ r. and_then r (both_of c)) k
dates_stop (Err e) d missing ids periods f h k = absurd h

-- both are there to be read
module _ (missing missing' : Bool) (ids ids' : List (List ℕ)) (periods : List Period) (exceptions : List Exception) where
  -- none of them has a record
  none_from : (c d : Result Loaded FeedFault) → IsCalendar c missing ids periods → AreDates d ids missing' ids' exceptions → (missing && missing') ≡ true
      → calendars_from c d ≡ Err (fault.MissingTable table.Calendar)
  none_from (Ok c) (Ok d) h k e = grind arith
  none_from (Ok c) (Err f) h k e = absurd k
  none_from (Err f) d h k e = absurd h

  -- services run as the tables say
  services_from : (c d : Result Loaded FeedFault) (s : ServiceParts) → s ≡ record { ids = ids'; periods = periods; exceptions = exceptions }
      → IsCalendar c missing ids periods → AreDates d ids missing' ids' exceptions → (missing && missing') ≡ false → IsOkAnd (calendars_from c d) (RunsBy (runs s))
  services_from (Ok c) (Ok d) s same h k e =
      let tables : Calendars = record { calendar = loaded_rows c; dates = loaded_rows d } in
      let found = ap (λ b. if b then Err (fault.MissingTable table.Calendar) else Ok tables) (sym (ap₂ (λ a b. a && b) h.0 k.0) ∙ e) in
      let P : Result Calendars FeedFault → Type 0 = λ r. IsOkAnd r (RunsBy (runs s)) in
      let Q : List (List ℕ) → Type 0 = λ before. AreNumbered (loaded_rows d) (row_count (loaded_rows d)) before ids' exceptions in
      subst P (sym found) (λ service day.
      ap (λ (x : ServiceParts). runs x service day) (same ∙ ap (λ p. record { ids = ids'; periods = p; exceptions = exceptions }) h.2)
      ∙ runs_is (loaded_rows c) (loaded_rows d) ids' exceptions h.3 (subst Q h.1 k.1) service day)
  services_from (Ok c) (Err f) s same h k e = absurd k
  services_from (Err f) d s same h k e = absurd h

-- the fault of the calendar comes first
module _ (m : FileMap) (folder : List ℕ) (limits : Limits) where
  pub calendar_first : (f : FeedFault) → calendar_from (load_in m folder limits (unread_table f) table.Calendar) ≡ Err f → calendars_in m folder limits (unread_table f) ≡ Err f
  unfolding calendars_in
  calendar_first f h = grind arith

  -- and then that of the exceptions
  pub dates_first : (f : FeedFault) (missing : Bool) (ids : List (List ℕ)) (periods : List Period)
      → IsCalendar (calendar_from (load_in m folder limits None table.Calendar)) missing ids periods → IsFaultOf table.CalendarDates f
      → dates_from (load_in m folder limits (unread_table f) table.CalendarDates) ≡ Err f → calendars_in m folder limits (unread_table f) ≡ Err f
  unfolding calendars_in
  dates_first f missing ids periods c own h = grind (arith, dates_stop, load_in-other)

  module _ (missing missing' : Bool) (ids ids' : List (List ℕ)) (periods : List Period) (exceptions : List Exception) where
    -- none of them is there
    pub none_there : IsCalendar (calendar_from (load_in m folder limits None table.Calendar)) missing ids periods
        → AreDates (dates_from (load_in m folder limits None table.CalendarDates)) ids missing' ids' exceptions → (missing && missing') ≡ true
        → calendars_in m folder limits None ≡ Err (fault.MissingTable table.Calendar)
    unfolding calendars_in
    none_there h k e = grind (arith, none_from)

    -- services run as the tables say
    pub services_here : (s : ServiceParts) → s ≡ record { ids = ids'; periods = periods; exceptions = exceptions }
        → IsCalendar (calendar_from (load_in m folder limits None table.Calendar)) missing ids periods
        → AreDates (dates_from (load_in m folder limits None table.CalendarDates)) ids missing' ids' exceptions → (missing && missing') ≡ false
        → IsOkAnd (calendars_in m folder limits None) (RunsBy (runs s))
    unfolding calendars_in
    services_here s same h k e = grind (arith, services_from)

-- what was read of a table with no fault is of some table
pub of_calendar : (l : Loaded) (missing : Bool) (ids : List (List ℕ)) (periods : List Period) → fault_of_calendar l ≡ None → missing ≡ has_no_record l
    → ids ≡ service_ids (loaded_rows l) → periods ≡ periods_of (loaded_rows l) → AreDistinctRows (loaded_rows l) → IsOfCalendar missing ids periods
of_calendar l missing ids periods sound absent named held distinct = (l, rw sound (absent, named, held, distinct))

pub of_dates : (l : Loaded) (before : List (List ℕ)) (missing : Bool) (ids : List (List ℕ)) (exceptions : List Exception) → fault_of_dates l ≡ None → missing ≡ has_no_record l
    → AreNumbered (loaded_rows l) (row_count (loaded_rows l)) before ids exceptions → AreOfDates before missing ids exceptions
of_dates l before missing ids exceptions sound absent numbered = (l, rw sound (absent, numbered))

-- and services run by these
pub runs_by_some : (missing missing' : Bool) (ids ids' : List (List ℕ)) (periods : List Period) (exceptions : List Exception) (s : ServiceParts)
    → s ≡ record { ids = ids'; periods = periods; exceptions = exceptions } → IsOfCalendar missing ids periods → AreOfDates ids missing' ids' exceptions → (missing && missing') ≡ false
    → RunsBySome (runs s)
runs_by_some missing missing' ids ids' periods exceptions s same (c, calendar) (d, dates) some = record {
  calendar = c;
  dates = d;
  runs_by = services_from missing missing' ids ids' periods exceptions (calendar_from (Ok c)) (dates_from (Ok d)) s same calendar dates some;
}
