-- The names that most proofs of this crate cite, passed on from one place. Declares nothing.
pub use Rattle.std.proofs.Common.{All, Bool, Global, IfOk, List, Result, Vec, [], ap, append-nil, arith, decimal, drop, length, refl, slice_index_or, subst, sum_by, sym, take, true, ℕ, ◌*◌, ◌++◌}
pub use Rattle.std.proofs.{Common.{◌+◌, ◌<◌, ◌==◌, ◌^◌, ◌||◌, ◌∙◌, ◌∷◌, ◌≡◌, ◌≤◌}, lemmas.List.at_drop_all}
pub use Rattle.clock_text.specs.Civil.{moment_text, nanos_text}
pub use Rattle.journey_report.specs.{AnswerTexts.{rides_text, start_count}, DepartureTexts.{departures_text, froms_text, reach_text, rows_text}}
unfoldable pub use Rattle.journey_report.specs.{AnswerTexts.{arrived_text, encloses_text, holds_text, punctual_row, ride_text, sample_text}, DepartureTexts.{departure_text, departures_head}}
unfoldable pub use Rattle.journey_report.specs.DepartureTexts.{from_text, reach_head}
pub use Rattle.plan_model.specs.{NameLists.NameLists, Network.NetworkModel, declared.model.Connection.Connection}
pub use Rattle.printed_rows.proofs.{Connections.{arr_printable, dep_printable, run_named}, Lines.{name_is, split_at, text_step}}
pub use Rattle.printed_rows.specs.Records.{place_name, row_of_fields, run_name}
pub use Rattle.trip_replay.specs.declared.Ridden.{Ridden}
