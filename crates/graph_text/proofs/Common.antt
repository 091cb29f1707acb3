-- The names that most proofs of this crate cite, passed on from one place. Declares nothing.
pub use Rattle.std.proofs.Common.{All, AllPairs, Bool, Err, Global, IfSome, IsErr, IsErrAnd, IsSome, List, MatchOption, None, Ok, Option, Result, Some, Vec, [], ap, append-nil, append_assoc}
pub use Rattle.std.proofs.Common.{arith, codes, decimal, drop, eq-eqb, eqb, eqb-true, false, if◌then◌else◌, inl, inr, is_some, le-leb, leb-true, length, lt-ltb, ltb-true, map, nat_le, ne_eqb}
pub use Rattle.std.proofs.Common.{option_and_then, option_map, refl, slice_index_or, subst, suc, sym, take, true, ℕ, ◌&&◌, ◌++◌, ◌+◌, ◌-◌, ◌<◌, ◌==◌, ◌^◌, ◌∙◌, ◌∷◌, ◌≡◌, ◌≢◌, ◌≤◌, ◌⊎◌}
pub use Rattle.std.proofs.lemmas.{Bool.{and_parts, cases_eq, false≢true}, List.Elements.{All-cons, All-contains, All-head, All-map, All-nil, All-tail}}
pub use Rattle.clock_text.proofs.OneText.{if_cases, some_cases}
pub use Rattle.clock_text.specs.{Civil.{last_printable, moment_text, nanos_text}, Times.{moment_at, nanos_at}}
pub use Rattle.csv_rows.specs.Tables.{table_of}
pub use Rattle.plan_graph.specs.{Ready.{IsLegOf, IsReady}, Tidy.{IsFit, IsFitRow, IsFitStart, IsFitTable}, declared.{GraphRow.GraphRow, PlaceTable.PlaceTable, PlanGraph.PlanGraph}}
pub use Rattle.plan_model.proofs.Results.{require-ok}
pub use Rattle.plan_model.specs.{Bounds.{end_of_arrivals, most_connections}, NameLists.{AreNames, NameLists, NamesFit}, Network.{IsValid, arr_of, change_of, connection, count, dep_of, from_of}}
pub use Rattle.plan_model.specs.{Network.{run_of, step_of, to_of, NetworkModel}, Results.{and_then, require}, Ways.limit_of, declared.model.{Connection.Connection, Leg.Leg, PlaceId.PlaceId}}
pub use Rattle.plan_model.specs.declared.model.Query.{Query}
pub use Rattle.printed_rows.proofs.{Chains.{and_then-value, else-value, if-value}, Lines.{name_is, split_at, text_more}}
pub use Rattle.printed_rows.specs.{Fields.{connection_of, field, is_kind, is_query, number_of, rises, whole_at}, Records.{place_name, run_name, text_of_records}}
unfoldable pub use Rattle.printed_rows.specs.Records.{row_of_fields}
pub use Rattle.graph_text.specs.{Asked.IsHeadOf, GraphRows.{AreGraphRows, AreLegRows, AreTableRows, IsHeadRow, IsLegRow, IsPlaceRow, IsTextOf, is_head, is_place, version_in}}
pub use Rattle.graph_text.specs.{GraphTexts.{leg_fields, leg_row, plan_text, plan_text_in, ride_text, rides_text, rows_text, tables_text}, Printable.{IsPrintableExpanded, IsPrintablePlan}}
pub use Rattle.graph_text.specs.{Printable.IsPrintableQuery, Reading.{IsPlaced, IsReadAs, IsUnlessNoMemory, after_leg_row, after_place_row, agrees, are_in_order, can_start, equals_limit}}
pub use Rattle.graph_text.specs.Reading.{graph_after_first, graph_of, graph_of_records, head_in, head_numbers, head_of, head_row_in, is_by_limit, leg_between, leg_found, leg_names, leg_numbers}
pub use Rattle.graph_text.specs.Reading.{leg_row_in, names_in, no_tables, place_numbers, place_or_first, place_row_in, place_tables_from, row_in, start_in, started_in, step, table_in, with_rows}
pub use Rattle.graph_text.specs.{Versions.{ninth, number_of_version, rides_leave, rows_leave, tables_leave, version_by, width_of}, declared.{Head.Head, reader.HeadRow.HeadRow}}
pub use Rattle.graph_text.specs.declared.{reader.{LegNames.LegNames, LegRow.LegRow, PlaceRow.PlaceRow, Reading.Reading, TableStart.TableStart, TextFault.TextFault}, version.Version.Version}
pub use Rattle.graph_text.specs.declared.version.Version.TheVariants.{First, Second}
