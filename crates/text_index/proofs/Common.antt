-- The names that most proofs of this crate cite, passed on from one place. Declares nothing.
pub use Rattle.std.proofs.Common.{Bool, Bor, Contains, IfNone, IfSome, IsUtf8, List, None, Option, Some, [], ap, arith, bytes_eq, false, get_or, get_or-take, if◌then◌else◌, length, length-take}
pub use Rattle.std.proofs.{Common.{refl, slice_get, slice_index_or, subst, suc, sym, take, true, zero, ℕ, ◌+◌, ◌-◌, ◌<◌, ◌∙◌, ◌∷◌, ◌≡◌}, lemmas.List.{get_or-map, get_or_default, length-map}}
pub use Rattle.std.proofs.lemmas.List.{take_more}
pub use Rattle.csv_rows.proofs.{IdLemmas.{got, number_is}, KeyTexts.{key_absent, key_adds, key_position}}
pub use Rattle.plan_model.proofs.Texts.{IsNameList-adds, take-adds}
pub use Rattle.plan_model.specs.NameLists.{Adds, AreDistinct}
pub use Rattle.text_index.specs.Numbers.{key_texts}
