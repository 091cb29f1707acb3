-- The names that most proofs of this crate cite, passed on from one place. Declares nothing.
pub use Rattle.std.proofs.Common.{AllPairs, Bool, Err, IfSome, List, None, Ok, Option, Result, Some, [], ap, arith, false, filter, if◌then◌else◌, length, map, option_and_then, refl, slice_index}
pub use Rattle.std.proofs.Common.{slice_index_or, subst, suc, sum_by, sym, unwrap_or, zero, ℕ, ◌+◌, ◌<◌, ◌==◌, ◌∙◌, ◌∷◌, ◌≡◌, ◌≤◌}
pub use Rattle.table_files.proofs.ReadingLemmas.{own-of, reads-after, reads-both, reads-fault, reads-raised, reads-value}
pub use Rattle.table_files.specs.{Loading.{load_in, loaded_rows}, declared.loading.Loaded.Loaded}
pub use Rattle.csv_rows.proofs.ListLemmas.{get-list_below, length-list_below, list_below-next, list_below-zero}
pub use Rattle.csv_rows.specs.{Tables.{field, field_at, number_in, row_count}, declared.columns.Column.TheVariants.{EndTime, ExactTimes, HeadwaySecs, StartTime, StopId, TripId}}
pub use Rattle.csv_rows.specs.declared.feed_tables.{FeedFault.{FeedFault, TheVariants.{BadField, UnknownKey}}, Table.TheVariants.{Frequencies, Routes, StopTimes, Stops, Trips}}
pub use Rattle.feed_lists.specs.{Stops.{parent_of, place_from, stop_ids, stop_places}, Trips.{trip_ids, trips_fault}}
pub use Rattle.plan_model.proofs.Results.{and_then-err, require-ok}
pub use Rattle.plan_model.specs.Results.{and_then, value_or}
pub use Rattle.trip_frequencies.specs.Frequencies.{bad_frequency, fault_of_frequencies, frequencies_from, frequency_columns, frequency_from, frequency_rows, no_frequency, repeats_of}
pub use Rattle.trip_frequencies.specs.{Repeats.{all_repeats_in, repeats_in}, declared.frequencies.FrequencyRow.FrequencyRow}
unfoldable pub use Rattle.trip_frequencies.specs.Frequencies.{frequencies_fault, frequency_at}
pub use Rattle.gtfs_tables.specs.{FeedInside.{IsWholeFeed, feed_parts_of}, Feeds.{FeedParts, IsFeed, IsFeedOf, IsFeedTable, IsSoundFeed, Tables, tables_by, tables_from}, Timed.AreTimed}
pub use Rattle.gtfs_tables.specs.Timed.{IsTimed, rows_of, AreRepeating, AreRepeats, IsFrequency, IsSmall}
unfoldable pub use Rattle.gtfs_tables.specs.Feeds.{tables_in}
