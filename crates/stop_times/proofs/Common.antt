-- The names that most proofs of this crate cite, passed on from one place. Declares nothing.
pub use Rattle.std.proofs.Common.{All, AllPairs, Bool, Bor, Contains, Err, IfSome, IsUtf8, List, None, Ok, Option, Result, Some, [], ap, ap₂, arith, cond, drop, eq-eqb, eqb-true, false, filter}
pub use Rattle.std.proofs.Common.{get_or, get_or-drop, get_or-take, if◌then◌else◌, inl, inr, is_some, length, length-drop, length-take-le, ltb-false, ltb-true, map, nat_eq, nat_le, nat_lt}
pub use Rattle.std.proofs.Common.{option_map, refl, rules, slice_get, slice_index, slice_index_or, slice_range, subst, suc, sym, true, zero, ℕ, ⊎_elim, ◌&&◌, ◌++◌, ◌+◌, ◌-◌, ◌<◌, ◌==◌, ◌||◌, ◌∙◌}
pub use Rattle.std.proofs.{Common.{◌∷◌, ◌≡◌, ◌≢◌, ◌≤◌}, lemmas.{Bool.{and_from, and_parts, cases_Bool, cases_lt, not_from_false, or_parts, Decides.nat_tests}, Grind.common_steps}}
pub use Rattle.std.proofs.lemmas.List.{get_or_append_left, get_or_default, get_or_push, length_push}
pub use Rattle.std.specs.Result.{result_err}
pub use Rattle.csv.specs.Reading.{ReadRecord, default_config, reader_state, records_next, took_first}
unfoldable pub use Rattle.csv.specs.{Reading.{Reached, records_from}, Records.field_at}
pub use Rattle.csv_rows.proofs.{FirstLemmas.{any-false, any-true, first-at, first-is, first-next, first-none, first-reported, first-zero, none-both, none-each}, KeyLemmas.AreApart}
pub use Rattle.csv_rows.proofs.{KeyLemmas.{asked_before, before_inside, less_group, no_twins, rises}, ListLemmas.{drop-next, drop-none, get-list_below, length-list_below, list_below-next}}
pub use Rattle.csv_rows.proofs.{ListLemmas.list_below-zero, RowLemmas.{number_inside, optional-each, or_first, or_then}, SoonestLemmas.{IsSoonest, soonest-first, soonest-next}}
pub use Rattle.csv_rows.proofs.SortLemmas.{AreKeys, keys-none, keys-taken, sorted_are}
pub use Rattle.csv_rows.specs.{Lists.{any_below, first_below, list_below}, Keys.{AreSorted, IsAtMost, IsBefore, IsRising, has_twin, key_at, no_key, precedes}, Spaces.trimmed_text}
pub use Rattle.csv_rows.specs.{Tables.{number_in, row_count, table_of}, declared.columns.Column.TheVariants.{ArrivalTime, DepartureTime, DropOffType, PickupType, StopId, StopSequence, TripId}}
pub use Rattle.csv_rows.specs.declared.feed_tables.{FeedFault.{FeedFault, TheVariants.{BackwardTime, BadField, DuplicateKey, NoMemory, TooManyRows, UnknownKey}}, Table.TheVariants.StopTimes}
pub use Rattle.csv_rows.specs.declared.keys.Key.{Key}
unfoldable pub use Rattle.csv_rows.proofs.SortLemmas.{IsOwn, key_of}
unfoldable pub use Rattle.csv_rows.specs.Keys.{twin_at}
pub use Rattle.plan_model.specs.Results.{and_then, unless, value_or}
pub use Rattle.table_files.specs.Loading.{loaded_from}
pub use Rattle.stop_times.specs.{ByTrip.{IsBounded, parted, rows_between}, RecordsRemaining.{IsReading, records_after, source}, StopTimeBounds.{end_of_times, most_stop_times}}
pub use Rattle.stop_times.specs.{StopTimeKeys.{AreKeysOf, AreRowsRising, IsRowBefore, backward_after, goes_back_after, is_taken}, StopTimes.{IsKnownIn, IsStopOf, TripsAndStops, bad_time}}
pub use Rattle.stop_times.specs.StopTimes.{counted_fault, departure_of, goes_back, is_kept, just_before, missing_time_column, named_by, named_of, no_row, order_fault, row_at, sequence_of}
pub use Rattle.stop_times.specs.{StopTimes.{stop_arrival, stop_number_in, time_columns, timed_from, timed_in, timed_of, timed_rows, times_in, times_of, trip_of, visit_of}, Timetables.AreVisits}
pub use Rattle.stop_times.specs.{Timetables.stop_times_from, Visits.{AreStopTimes, IsSpanOf, no_visit, visit_at, visit_or_none}, declared.rows.{StopRow.StopRow, TimedRow.TimedRow}}
unfoldable pub use Rattle.stop_times.specs.StopTimes.{backward_time, repeated_time, stop_times_fault, timed_at}
