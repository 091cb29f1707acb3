-- The names that most proofs of this crate cite, passed on from one place. Declares nothing.
pub use Rattle.std.proofs.Common.{All, AllPairs, Bool, Contains, Err, Global, IfOk, IsPermutation, IsSorted, IsTrue, List, None, Ok, OnOk, Option, Ordering, Result, Some, Vec, [], ap, append-nil}
pub use Rattle.std.proofs.Common.{append_assoc, arith, codes, cond, count_by, decimal, drop, eq-eqb, ext_get_or, get_or, get_or-set_other, get_or-set_same, get_or-take, if◌then◌else◌, inl, inr}
pub use Rattle.std.proofs.Common.{is_lt, is_some, le-leb, le-ltb, leb-false, leb-true, length, length-set, length-take, lt-ltb, ltb, ltb-true, map, max, nat_cmp, nat_le, option_and_then}
pub use Rattle.std.proofs.Common.{option_map, refl, reverse, rules, set, slice_get, slice_index_or, subst, suc, sum_by, sym, take, take_all, take_at, true, zero, ℕ, ◌*◌, ◌++◌, ◌+◌, ◌-◌, ◌/◌, ◌<◌}
pub use Rattle.std.proofs.{Common.{◌^◌, ◌∙◌, ◌∷◌, ◌≡◌, ◌≢◌, ◌≤◌, ◌⊎◌}, Math.Nat.{le-max_left, max-le, mul-add, mul-le-mul_left, mul_assoc, mul_comm}, lemmas.Bool.{both_ways, cases_Bool}}
pub use Rattle.std.proofs.lemmas.{Bool.{cases_eq, cases_lt, cases_order, Decides.nat_tests}, List.{drop_all, get_or-reverse, get_or_append_left, get_or_at, get_or_default, get_or_past}}
pub use Rattle.std.proofs.lemmas.List.{get_or_read, length_push, map-append, take_more, Elements.{All-contains, All-map, All-push, Contains-append_left, Contains-append_right}}
pub use Rattle.std.proofs.lemmas.List.Sorted.{All-permutation, Contains-permutation, IsPartitionPoint-from_clause, IsPermutation-trans, length_permutation, ranks_by, sorted_far}
pub use Rattle.std.proofs.lemmas.List.Sums.{count_by-le-length, sum_by-cons}
pub use Rattle.std.specs.Result.{result_err}
pub use Rattle.clock_text.specs.Civil.{last_printable}
pub use Rattle.csv_rows.specs.Tables.{header, row_count, table_of}
pub use Rattle.interval_fixed.specs.Interval.{weighted}
pub use Rattle.plan_model.proofs.{Boarding.{boards_later, listed-way_of, way_of-listed, way_takes}, Bounds.forward, Results.require-ok, ScanOrders.{IsNext, IsOrderBut, Known, all_known}}
pub use Rattle.plan_model.proofs.{ScanOrders.{known_left_out, next_of}, Sorted.{earlier_in_order, not_above}}
pub use Rattle.plan_model.specs.{NameLists.{AreNames, NameLists, NamesFit}, Network.{IsValid, arr_of, connection, count, dep_of, from_of, outcomes, run_of, step_of, to_of, NetworkModel}}
pub use Rattle.plan_model.specs.{Strategy.{AreSafe, IsBoardable, IsBoardableAtStart, IsLeg, IsSafe, IsSafeFor}, Ways.{way_of, ways_into}, declared.departure.Departure.Departure}
pub use Rattle.plan_model.specs.declared.model.{Connection.Connection, ConnectionId.ConnectionId, Outcome.Outcome, Query.Query}
pub use Rattle.printed_rows.proofs.{Chains.if-value, Lines.{four_fields, name_is, seven_fields, split_at, text_step}}
pub use Rattle.printed_rows.specs.{Fields.{connection_of, field, is_query, number_of, rises, whole_at}, Records.{run_name, text_of_records}}
unfoldable pub use Rattle.printed_rows.specs.Records.{row_of_fields}
pub use Rattle.lower_proof.specs.Boards.{AreEntries, Falls, FrontValue, IsEntry, ShownBoard, ValueInTime, entry_at, least_of, AreDepartingBy, IsDepartingBy, NoneAfter, AllLate, AreBoards}
pub use Rattle.lower_proof.specs.{Boards.{AreFresh, AreLate, AreMinima, HaveEntries, IsBoard, IsBoardOf, board_at}, CertificateTexts.{bounds_record, certificate_text, entry_text, value_record}}
pub use Rattle.lower_proof.specs.{CertificateTexts.value_records, Certificates.{AreLeast, HasValueUpTo, IsAccepted, IsLastFault, IsLeastAt, IsLeastAtStart, IsLeastOf, IsLeastValue, IsLocal}}
pub use Rattle.lower_proof.specs.{Certificates.{IsTight, IsVia, Offers, arrived_by, bound_of}, Reading.{AreValuesReported, IsFaultAfter, IsFirstLineFault, IsProofRead, IsProofReported}}
pub use Rattle.lower_proof.specs.Reading.{IsReadBack, ReadsBack, bounds_in, bounds_numbers, bounds_row_in, connection_before, connection_in, is_bounds, nanos_in, reported_in, value_fault}
pub use Rattle.lower_proof.specs.{Reading.{value_row, value_row_in}, Steps.{AllFit, IsBestExit, KeepsTo, exit_of, lesser}, declared.{LowerBounds.LowerBounds, board.Entry.Entry}}
pub use Rattle.lower_proof.specs.declared.reader.{BoundsRow.BoundsRow, ProofFault.{ProofFault, TheVariants.{NoMemory, Row}}, RowValue.RowValue, ValueRow.ValueRow}
