-- The names that most proofs of this crate cite, passed on from one place. Declares nothing.
pub use Rattle.std.proofs.Common.{All, Bool, Err, IsOkAnd, List, None, Ok, Option, Result, Some, [], add-one, ap, append-nil, ap₂, arith, bytes_eq, false, filter, if◌then◌else◌, int_eq, length}
pub use Rattle.std.proofs.{Common.{length-append, ne_eqb, pos, refl, subst, sym, true, w32, ℕ, ℤ, ◌&&◌, ◌++◌, ◌+ℤ◌, ◌+◌, ◌-◌, ◌<◌, ◌||◌, ◌∙◌, ◌∷◌, ◌≡◌, ◌≤◌}, lemmas.Bool.{and_from, and_left}}
pub use Rattle.std.proofs.lemmas.{Bool.{and_right, cases_Bool, false_from_ne_true, or_from}, Int.to_z-of_z, List.Elements.{All-push, filter-append}, Option.{none-some, slice_get-get_or}}
pub use Rattle.std.proofs.lemmas.Option.{slice_get_past}
pub use Rattle.std.specs.Result.{result_err}
pub use Rattle.csv_rows.proofs.{FaultLemmas.{fault-at, match_raised}, FirstLemmas.{first-next, first-zero, none-each}, IdLemmas.{no_row, number-here, number-push, number-same, one_row}}
pub use Rattle.csv_rows.proofs.{ListLemmas.{get-list_below, length-list_below, list_below-next, list_below-zero}, RowLemmas.{name_is, name_text}}
pub use Rattle.csv_rows.specs.{FeedTables.{IsFaultOf, unread_table}, Lists.first_below, Ids.name_in, Tables.{field, field_at, number_in, row_count}, declared.columns.Column.TheVariants.ServiceId}
pub use Rattle.csv_rows.specs.declared.feed_tables.Table.TheVariants.{Calendar}
unfoldable pub use Rattle.csv_rows.specs.Lists.{any_below}
pub use Rattle.file_ports.specs.Ports.{FileMap}
pub use Rattle.plan_model.proofs.Results.{require-ok, result_err-require}
pub use Rattle.plan_model.specs.NameLists.{Adds, IsTrimmed}
pub use Rattle.table_files.specs.Loading.{load_in, loaded_rows}
pub use Rattle.service_days.specs.Calendars.{AreDates, AreDistinctRows, AreOfDates, Calendars, IsCalendar, IsOfCalendar, RunsBy, RunsBySome, both_of, calendar_from, calendars_from, dates_from}
pub use Rattle.service_days.specs.{Calendars.{fault_of_calendar, fault_of_dates, has_no_record, is_active_service, AddsDate, AreNumbered}, Dates.{ServiceDate, bad_date, date_columns, date_from}}
pub use Rattle.service_days.specs.{Dates.{date_in, date_of, date_or_none, is_excepted, is_for}, Exceptions.{has, has_at, same}, Periods.{bad_period, period_columns, period_in, period_of}}
pub use Rattle.service_days.specs.{Periods.{period_or_none, periods_of, runs_in_period, runs_in_row, service_ids}, Services.{ServiceParts, period_runs, runs, runs_of_service, runs_within}}
pub use Rattle.service_days.specs.declared.exceptions.Exception.{Exception}
unfoldable pub use Rattle.service_days.specs.{Calendars.calendars_in, Dates.date_at_row, Days.days_from, Periods.period_at}
