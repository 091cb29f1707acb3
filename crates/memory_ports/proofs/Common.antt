-- The names that most proofs of this crate cite, passed on from one place. Declares nothing.
pub use Rattle.std.proofs.Common.{Bool, Global, List, Option, Some, Vec, [], ap, arith, bytes_eq, false, get_or, get_or-set_other, get_or-set_same, if◌then◌else◌, length, length-append, map, min}
pub use Rattle.std.proofs.Common.{nat_eq, position, refl, set, string_bytes, sym, true, ℕ, ◌&&◌, ◌++◌, ◌+◌, ◌-◌, ◌<◌, ◌^◌, ◌||◌, ◌∙◌, ◌∷◌, ◌≡◌, ◌≢◌, ◌≤◌}
pub use Rattle.std.specs.List.{list_any}
pub use Rattle.file_ports.proofs.NamedLemmas.{IsEntryAt, at_path, entry_at, found, get_or_next, none_at, path_is, position_gives_none, put_last, put_over, searched, set_gives}
pub use Rattle.file_ports.specs.{Named.value_at, declared.named.Named.Named}
pub use Rattle.memory_ports.specs.{Failing.{SameFailing, fails_in, faults_in}, declared.memory.Failing.Failing}
