-- The names that most proofs of this crate cite, passed on from one place. Declares nothing.
pub use Rattle.std.proofs.Common.{All, AllPairs, Bool, List, MatchOption, None, Option, Some, [], ap, append_assoc, arith, cond, drop, false, filter, get_or, if◌then◌else◌, inl, inr, le-leb}
pub use Rattle.std.proofs.Common.{le-ltb, leb, leb-false, leb-true, length, length-take-le, lt-ltb, ltb, map, nat_lt, refl, rules, set, subst, suc, sym, take, take-append-drop, true, ℕ, ◌*◌}
pub use Rattle.std.proofs.{Common.{◌++◌, ◌+◌, ◌-◌, ◌/◌, ◌<◌, ◌==◌, ◌^◌, ◌∙◌, ◌∷◌, ◌≡◌, ◌≢◌, ◌≤◌, ◌⊎◌}, lemmas.{Bool.{cases_lt, lt-leb, Decides.nat_tests}, Grind.common_steps}}
pub use Rattle.std.proofs.lemmas.List.{drop-append-le, drop-take, drop_at, drop_more, take_at, take_rest, Elements.{All-cons, All-from_recursion}}
pub use Rattle.std.specs.List.{AllByRecursion, copy_within, position_or_len}
pub use Rattle.plan_model.specs.Tree.{Tree}
pub use Rattle.value_laws.specs.ScoreLaws.{ScoreLaws, Scoring}
pub use Rattle.stop_profile.specs.{Inserts.{RowsRise, lower_row, row_in_time, rows_after_inserts, rows_with_new, rows_with_new_by}, LookLaw.{Carries, IsBestRow, LookLaw, LookStep, first, holds}}
pub use Rattle.stop_profile.specs.{LookLaw.{none, same, wins}, declared.Row.Row}
