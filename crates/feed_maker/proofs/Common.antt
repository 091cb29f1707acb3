-- The names that most proofs of this crate cite, passed on from one place. Declares nothing.
pub use Rattle.std.proofs.Common.{Bool, Err, IfSome, List, None, Ok, Option, Result, Some, [], add-one, ap, append-nil, append_assoc, arith, bytes_eq, codes, drop, false, flat_map, if◌then◌else◌}
pub use Rattle.std.proofs.Common.{length, refl, rules, slice_get, string_bytes, suc, sym, take, take-append-drop, vec_capacity, vec_len, zero, zero-add, ℕ, ◌%◌, ◌*◌, ◌++◌, ◌+◌, ◌-◌, ◌/◌, ◌<◌}
pub use Rattle.std.proofs.{Common.{◌∙◌, ◌∷◌, ◌≡◌, ◌≤◌}, lemmas.Slice.Eq.bytes_eq-Decides}
pub use Rattle.feed_maker.specs.MadeTables.{SameFolder, calendar_text, delays_text, hub_row, line_rows, own_row, own_rows, route_row, routes_text, run_rows, stop_time_row, stops_text, trip_row}
pub use Rattle.feed_maker.specs.{MadeTables.{trip_rows, trips_text}, Names.{two_digits, place_piece}, StopTimes.{lines_of, rows_from}}
unfoldable pub use Rattle.feed_maker.specs.{MadeTables.{made, other_files, joined, stop_times_text}, Names.time_text}
pub use Rattle.file_ports.specs.{Ports.{FileMap, Opens, file_at}, Steady.{PutsFile, folder_of, folder_of as others_on, remaining_of}}
