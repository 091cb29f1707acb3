-- The names that most proofs of this crate cite, passed on from one place. Declares nothing.
pub use Rattle.std.proofs.Common.{Bool, List, None, Option, Some, [], ap, arith, cond, drop, eq-eqb, false, if◌then◌else◌, is_lt, leb, leb-false, leb-true, length, ltb, ltb-false, ltb-true, map}
pub use Rattle.std.proofs.Common.{nat_cmp, ne_eqb, not, option_map, refl, rules, slice_range, subst, suc, sym, take, true, zero, ℕ, ◌&&◌, ◌+◌, ◌-◌, ◌<◌, ◌==◌, ◌∙◌, ◌∷◌, ◌≡◌, ◌≤◌}
pub use Rattle.std.proofs.lemmas.List.Sorted.{IsNonDecreasingBy-from_sort_by_key, IsPartitionPoint-from_clause, IsPartitionedBy-leb, IsPartitionedBy-ltb, answers_always}
pub use Rattle.std.specs.List.Sorted.{IsNonDecreasing, IsNonDecreasingBy, IsPartitionPoint, IsStableByKey, ties}
pub use Rattle.csv_rows.proofs.{FirstLemmas.{first-next, first-reported, first-zero}, ListLemmas.{length-list_below, list_below-next, list_below-zero}, SortLemmas.{AreKeys, keys-none, keys-taken}}
pub use Rattle.csv_rows.proofs.SortLemmas.{sorted_are}
pub use Rattle.csv_rows.specs.{Lists.{first_below, list_below}, Keys.{AreSorted, has_twin}, declared.{feed_tables.{FeedFault.TheVariants.DuplicateKey, Table.TheVariants.Frequencies}, keys.Key.Key}}
unfoldable pub use Rattle.csv_rows.proofs.SortLemmas.{key_of}
unfoldable pub use Rattle.csv_rows.specs.Keys.{twin_at}
pub use Rattle.plan_model.specs.Results.{value_or}
pub use Rattle.trip_frequencies.specs.Frequencies.{all_repeats_of, bad_frequency, frequency_columns, frequency_in, frequency_rows, no_frequency, repeats_of, start_of_row, trip_of_row}
pub use Rattle.trip_frequencies.specs.declared.frequencies.TripFrequency.{TripFrequency}
unfoldable pub use Rattle.trip_frequencies.specs.Frequencies.{frequency_at, repeated_start}
