-- The names that most proofs of this crate cite, passed on from one place. Declares nothing.
pub use Rattle.std.proofs.Common.{All, Bool, Err, IfNone, IfSome, IsUtf8, List, None, Ok, Option, Result, Some, [], ap, append_assoc, arith, bytes_eq, decimal, drop, false, if◌then◌else◌, inl}
pub use Rattle.std.proofs.Common.{inr, le-leb, length, length-append, map, nat_lt, option_map, refl, slice_get, slice_index_or, suc, sym, true, zero, ℕ, ◌%◌, ◌&&◌, ◌*◌, ◌++◌, ◌+◌, ◌-◌, ◌/◌, ◌<◌}
pub use Rattle.std.proofs.{Common.{◌==◌, ◌^◌, ◌∙◌, ◌∷◌, ◌≡◌, ◌≤◌}, lemmas.Bool.{and_parts, cases_Bool, false≢true, Decides.nat_tests}}
pub use Rattle.std.specs.List.{list_all, position_from}
pub use Rattle.clock_text.specs.Civil.{last_printable, moment_text, nanos_text, parts_of_day}
pub use Rattle.csv_rows.specs.Spaces.{trimmed_text}
pub use Rattle.plan_model.specs.{NameLists.{AreDistinct, AreNames, IsTrimmed, NameLists, NamesFit}, Network.{IsValid, connection, count, no_connection, run_of, step_of, NetworkModel}}
pub use Rattle.plan_model.specs.declared.model.Connection.{Connection}
pub use Rattle.printed_rows.specs.{Fields.{connection_of, number_of, whole_at}, Records.{place_name, run_name, text_of_records}}
unfoldable pub use Rattle.printed_rows.specs.Records.{row_of_fields}
pub use Rattle.text_index.proofs.Numbers.{false_if, position_found, position_none, with_utf8}
