-- The names that most proofs of this crate cite, passed on from one place. Declares nothing.
pub use Rattle.std.proofs.Common.{All, AllPairs, Bool, Bor, Contains, Decides, Err, IfErr, IfNone, IfSome, IsErr, IsErrAnd, IsPermutation, IsSorted, IsUtf8, List, None, Ok, Option, Ordering}
pub use Rattle.std.proofs.Common.{Result, Some, [], add-one, ap, append_assoc, ap₂, arith, below_more, bytes_eq, drop, drop-drop, eq-eqb, eq-or-lt_of_le, eqb, eqb-true, false, get_or}
pub use Rattle.std.proofs.Common.{get_or-drop, if◌then◌else◌, inl, is_lt, length, length-append, length-drop, lt-ltb, map, nat_cmp, nat_lt, ne_eqb, not, option_map, refl, reverse, rules}
pub use Rattle.std.proofs.Common.{slice_get, slice_index_or, subst, suc, sym, take, true, true≢false, zero, ℕ, ⊎_elim, ◌&&◌, ◌++◌, ◌+◌, ◌-◌, ◌<◌, ◌==◌, ◌^◌, ◌||◌, ◌∙◌, ◌∷◌, ◌≡◌, ◌≢◌, ◌≤◌, ◌⊎◌}
pub use Rattle.std.proofs.lemmas.Bool.{and_from, and_parts, both_ways, cases_Bool, cases_lt, eqb-false, false_from_ne_true, ltb-false, ltb-true, not-true, not_from_false}
pub use Rattle.std.proofs.lemmas.{Bool.Decides.{Decides-below_or, nat_tests}, Grind.common_steps, List.{drop-append-le, get_or-map, get_or_append_left, get_or_default, get_or_push, length-map}}
pub use Rattle.std.proofs.lemmas.List.{map-append, reverse-append, reverse-reverse, take-append-le, take_more, take_rest, Elements.{All-push, All-weaker, Contains-append_left, Contains-push}}
pub use Rattle.std.proofs.lemmas.{List.Quantifiers.{all_pairs_push, position-Some}, Option.{cond_some, none-some, same_Some, slice_get-get_or, slice_get_cases}, Slice.Eq.bytes_eq-Decides}
pub use Rattle.std.specs.{List.{IsDistinct, list_any}, Option.option_or, Prelude.{MatchResult, position, ⊤}, Str.is_utf8}
pub use Rattle.csv.proofs.RecordFacts.{field-bounds, field-get, field-there, last-append, prev-first, prev-next, rising-end, rising-first, rising-more}
pub use Rattle.csv.specs.{Reading.{ReadRecord, Ready, default_config, reader_config, reader_state, reader_trim, records, source_of, strip_bom}, Records.fields_of}
unfoldable pub use Rattle.csv.specs.{Reading.{Reached, records_from}, Records.{Rising, last_end, prev}}
pub use Rattle.plan_model.specs.NameLists.{Adds, AreDistinct, IsTrimmed}
unfoldable pub use Rattle.csv_rows.specs.{Lists.{any_below, first_below, list_below}, Keys.twin_at, Parts.parts_from, RowFaults.repeated_id, Tables.number_in}
pub use Rattle.csv_rows.specs.{Keys.{AreSorted, IsAtMost, IsBefore, IsRising, has_twin, just_precedes, key_at, no_key, precedes, repeated, sooner}, Ids.{name_in, text_in}, Parts.Fills}
pub use Rattle.csv_rows.specs.{RowFaults.{IsFirstFault, ReportsFirst, first_missing}, Spaces.{AreTrimmed, drop_spaces, trimmed_text}, Tables.{field, field_at, header, row_count, table_of}}
pub use Rattle.csv_rows.specs.declared.{feed_tables.{FeedFault.{FeedFault, TheVariants.DuplicateKey}, Table.Table}, keys.Key.Key}
