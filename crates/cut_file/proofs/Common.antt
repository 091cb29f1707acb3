-- The names that most proofs of this crate cite, passed on from one place. Declares nothing.
pub use Rattle.std.proofs.Common.{All, Bool, Contains, Err, IfSome, List, None, Ok, Option, Result, Some, [], add-one, ap, ap₂, arith, below_more, bytes_eq, eq-eqb, eq-or-lt_of_le, false, get_or}
pub use Rattle.std.proofs.Common.{get_or-set_other, get_or-set_same, if◌then◌else◌, inl, inr, is_some, le-ltb, length, length-append, length-set, lt-ltb, ltb-false, ltb-true, max, nat_lt, ne_eqb}
pub use Rattle.std.proofs.Common.{not, option_map, refl, rules, set, slice_get, slice_index_or, subst, suc, sym, take, true, zero, ℕ, ⊎_elim, ◌&&◌, ◌*◌, ◌++◌, ◌+◌, ◌-◌, ◌<◌, ◌==◌, ◌||◌, ◌∙◌, ◌∷◌}
pub use Rattle.std.proofs.{Common.{◌≡◌, ◌≤◌, ◌⊎◌}, lemmas.{Bool.{cases_Bool, cases_lt, eqb-false, eqb-true, or_parts}, List.{get_or-replicate, get_or_append_left, get_or_default, get_or_push}}}
pub use Rattle.std.proofs.lemmas.{List.take_more, Option.{get_or_from_slice_get, none-some, same_Some, slice_get_within}, Slice.Eq.bytes_eq-Decides}
pub use Rattle.std.specs.Option.{option_or}
pub use Rattle.csv_rows.proofs.{FirstLemmas.{absent_by, any-same, first-at, first-next, first-reported, first-same, first-zero, none-both, none-each}, KeyLemmas.{AreApart, asked, asked_before}}
pub use Rattle.csv_rows.proofs.{KeyLemmas.{before_inside, less_group, no_twins, rises}, SoonestLemmas.{IsSoonest, soonest-first, soonest-next}, SortLemmas.{AreKeys, keys-none, keys-taken}}
pub use Rattle.csv_rows.proofs.SortLemmas.{sorted_are}
pub use Rattle.csv_rows.specs.{Lists.{any_below, first_below}, Keys.{AreSorted, IsBefore, has_twin, key_at}, Tables.{field, index_of, row_count}, declared.columns.Column.Column}
pub use Rattle.csv_rows.specs.declared.{columns.Column.TheVariants.{Arr, Board, Change, Class, Dep, Exit, From, Run, Step, To}, keys.Key.Key}
unfoldable pub use Rattle.csv_rows.proofs.SortLemmas.{key_of}
unfoldable pub use Rattle.csv_rows.specs.{Keys.twin_at, Tables.number_in}
pub use Rattle.delay_table.specs.{DelayLists.DelayLists, Slots.AreDelays}
pub use Rattle.plan_model.specs.{NameLists.{Adds, AreDistinct, IsTrimmed, NameLists, NamesFit}, Network.{AreLinks, IsValid, IsValidConnection, count, NetworkModel, plain_network}}
unfoldable pub use Rattle.plan_model.specs.Network.{change_of, connection}
pub use Rattle.cut_file.specs.{CutKeys.{AreCutKeys, cut_row, fault_after, run_of, step_of}, CutNetworks.{IsCutNetwork, IsRide, AreConnections, IsConnection, IsNetwork, change_by, change_from}}
pub use Rattle.cut_file.specs.{CutNetworks.change_seconds_of, CutRows.{Row, named, row_from}, Faults.{bad_of, cut_just_precedes, cut_precedes, missing_column, same_run, too_many_rows}}
pub use Rattle.cut_file.specs.{NumberedRows.{AreCutColumns, IsNumbered, missing_in}, Read.{Cut, IsCutRead, IsFaultless}, declared.faults.CutFault.{CutFault, TheVariants.{Backward, BadField}}}
pub use Rattle.cut_file.specs.declared.{faults.CutFault.TheVariants.{Broken, DuplicateStep, TooManyRows}, rows.CutRow.CutRow}
unfoldable pub use Rattle.cut_file.specs.{CutNetworks.{largest, longest}, CutRows.row_at, Faults.{bad_field, first_cut_fault, repeated_step, row, row_of, run_fault}, NumberedRows.add_new}
unfoldable pub use Rattle.cut_file.specs.NumberedRows.{place_names, run_names}
