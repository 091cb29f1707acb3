-- The names that most proofs of this crate cite, passed on from one place. Declares nothing.
pub use Rattle.std.proofs.Common.{All, AllPairs, Bool, Bor, Contains, Err, IfNone, IfSome, IsPermutation, IsSorted, List, None, OnOk, Option, Result, Some, [], add-one, ap, append-nil}
pub use Rattle.std.proofs.Common.{append_assoc, ap₂, arith, below_more, bytes_eq, cond, eq-eqb, eq-or-lt_of_le, eqb, eqb-true, false, get_or, if◌then◌else◌, inl, inr, is_none, is_some, length}
pub use Rattle.std.proofs.Common.{length-append, ltb-false, map, nat_cmp, nat_lt, ne_eqb, not, option_map, position, refl, slice_get, slice_index, slice_index_or, subst, suc, sum_by, sym, take}
pub use Rattle.std.proofs.{Common.{true, unwrap_or, zero, ℕ, ⊎_elim, ◌&&◌, ◌*◌, ◌++◌, ◌+◌, ◌-◌, ◌<◌, ◌==◌, ◌∙◌, ◌∷◌, ◌≡◌, ◌≢◌, ◌≤◌}, lemmas.Bool.{and_from, and_parts, cases_Bool, cases_eq}}
pub use Rattle.std.proofs.lemmas.{Bool.{cases_lt, cases_order, false_from_ne_true, leb-false, ltb-true, Decides.{Decides-eqb, nat_tests}}, List.{get_or-map, get_or_append_left, get_or_default}}
pub use Rattle.std.proofs.lemmas.List.{get_or_push, length-map, length_push, map-append, Elements.{All-append, All-cons, All-contains, All-map, All-nil, All-push, Contains-append_left}}
pub use Rattle.std.proofs.lemmas.List.{Elements.Contains-push, Folds.{Any-from_list_any, list_any_at}, Quantifiers.{all_pairs_push, position-Some}, Sorted.{All-permutation, Contains-permutation}}
pub use Rattle.std.proofs.lemmas.{List.Sorted.{IsNonDecreasingBy-from_sort, length_permutation, searched}, Option.{get_or_from_slice_get, same_Some, slice_get-get_or, slice_get_within}}
pub use Rattle.std.proofs.lemmas.Result.{IfErr-weaker, on_ok_weaker}
pub use Rattle.std.specs.{List.{IsDistinct, fold, list_any, position_from, position_or_len}, Option.option_or}
pub use Rattle.csv_rows.proofs.{FaultLemmas.if_raised, FirstLemmas.{absent_by, first-at, first-is, first-next, first-same, first-zero, found_by, index_by-none, index_by-some, none-both}}
pub use Rattle.csv_rows.proofs.{FirstLemmas.none-each, IdLemmas.{got, number-contained, number-here}}
pub use Rattle.csv_rows.specs.{Lists.first_below, Tables.{field, field_at, number_in, row_count}, declared.columns.Column.TheVariants.{Class, Delay, Hour, RouteId, Weight}}
pub use Rattle.plan_model.specs.{Bounds.seconds_per_day, DelayRows.IsValidRow, NameLists.{Adds, AreDistinct}, declared.{model.Outcome.Outcome, units.TheConstants.WHOLE_WEIGHT}}
pub use Rattle.delay_table.specs.{DelayLists.{end_of_types, DelayLists, class_at, hour_class, hour_of, other_class, route_class, type_class}, declared.sums.TheConstants.MOST_GROUPS}
pub use Rattle.delay_table.specs.declared.faults.DelayFault.{DelayFault, TheVariants.{BadField, GroupSum, MissingColumn, NoMemory, TooManyClasses, WeightSum}}
pub use Rattle.delay_table.specs.{declared.{numbered.NumberedGroup.NumberedGroup, reading.GroupRows.GroupRows}, Delays.{Line, begins, class_name, class_rows, class_sum, class_type, delay_rises}}
pub use Rattle.delay_table.specs.Delays.{fault_after, fault_of, given, group_of, group_sum_at, groups_fault, if_begins, if_other, if_some, line_from, line_with, missing_column, no_default_of}
pub use Rattle.delay_table.specs.{Delays.{not_zero, of_group, other_sum, too_many_classes, type_rows, type_sum_at}, Groups.{Group, group_in, is_plain, listed, numbered_route, of_class}}
pub use Rattle.delay_table.specs.{Groups.{plain_type, same_if, same_number, with_group, with_route}, Numbered.{AreNumbers, IsNumber, IsNumbering, line_group, named_group, no_group, same_line}}
pub use Rattle.delay_table.specs.{Numbered.{same_numbered, same_text}, Read.{AddsRow, AreApart, AreGroupsRead, IsPushed, IsReadTo, group_rows_at, outcomes_at}, Slots.{AreDelays, IsClassOf}}
pub use Rattle.delay_table.specs.Slots.{IsGroupStart}
unfoldable pub use Rattle.delay_table.specs.{DelayLists.{class_for, type_index}, Delays.{delays_in, delays_of, first_delay_fault, first_line, firsts, group_outcomes, groups_at, groups_of}}
unfoldable pub use Rattle.delay_table.specs.{Delays.{line_fault, others, route_types_below}, Groups.{group_index, plain_types, routes_of, same_group}, Read.{line_at, read_outcomes}}
