-- The names that most proofs of this crate cite, passed on from one place. Declares nothing.
pub use Rattle.std.proofs.Common.{Bool, IfSome, IsSome, List, None, Option, Some, [], ap, arith, bytes_eq, drop, false, get_or, get_or-set_other, get_or-set_same, if◌then◌else◌, length}
pub use Rattle.std.proofs.Common.{length-append, length-set, map, min, position, refl, rules, set, string_bytes, subst, sym, take, take-add, true, unwrap_or, vec_items, vec_len, ℕ, ◌++◌, ◌+◌}
pub use Rattle.std.proofs.{Common.{◌-◌, ◌<◌, ◌∙◌, ◌∷◌, ◌≡◌, ◌≤◌, ◌⊎◌}, KnownBytes.{Appends-trans, Consumes-trans}, lemmas.{Bool.{cases_lt, cond_both}, Grind.common_steps, List.drop-drop}}
pub use Rattle.std.proofs.lemmas.{List.{drop_min, get_or_append_left, get_or_push, take-append-drop, take_rest, Quantifiers.position-Some}, Slice.Eq.bytes_eq-Decides}
pub use Rattle.std.specs.Io.KnownBytes.{Appends, Consumes, IsAtEnd}
pub use Rattle.file_ports.specs.{Counts.{HasCausesOf, RoseAt}, Named.value_at, Ports.{FileMap, FilesState, file_at, path_in_hand}, declared.named.Named.Named}
