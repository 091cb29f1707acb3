-- The names that most proofs of this crate cite, passed on from one place. Declares nothing.
pub use Rattle.std.proofs.Common.{All, AllPairs, Bool, Bor, Global, IsTrue, List, None, Option, Some, String, [], ap, arith, bytes_eq, drop, false, find, flat_map, get_or, if◌then◌else◌, is_none}
pub use Rattle.std.proofs.Common.{is_some, length, lit<, map, nat_le, not, option_map, refl, rules, slice_get, string_bytes, subst, suc, sym, take, tests, true, ℕ, ◌&&◌, ◌+◌, ◌-◌, ◌<◌, ◌==◌, ◌∙◌}
pub use Rattle.std.proofs.{Common.{◌∷◌, ◌≡◌, ◌≢◌, ◌≤◌}, lemmas.Iterator.{Consumers.{YieldsList-at, count_from_yields_List}, Splits.YieldsList-from_str_split}}
pub use Rattle.std.specs.List.{list_all, position_or_len}
pub use Rattle.command_line.specs.{Options.{all_options, option_name, option_named}, Settings.{Setting, is_new, spelled, text_of}, Values.{are_delays, delay_in, is_delay, last_until, moment_of}}
pub use Rattle.command_line.specs.{Values.pieces, declared.{values.TheConstants.LONGEST_PROMISE, options.OptionName.{OptionName, TheVariants.By}}}
unfoldable pub use Rattle.command_line.specs.Settings.{are_settings, value_in, value_of}
