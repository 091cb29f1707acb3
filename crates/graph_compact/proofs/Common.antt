-- The names that most proofs of this crate cite, passed on from one place. Declares nothing.
pub use Rattle.std.proofs.Common.{All, AllPairs, BTreeSet, Contains, Less, List, MatchOption, Option, Some, [], ap, ap₂, arith, drop, eq-eqb, get_or-set_other, get_or-set_same, inl, inr, length}
pub use Rattle.std.proofs.{Common.{nat_cmp, ne_eqb, refl, slice_index_or, slice_set, subst, suc, sym, ℕ, ◌++◌, ◌+◌, ◌<◌, ◌∙◌, ◌∷◌, ◌≡◌, ◌≢◌, ◌≤◌}, lemmas.Bool.{cases_eq, cases_lt}}
pub use Rattle.std.proofs.lemmas.{Grind.common_steps, List.{at_drop_more, get_or-map, length-map, map-set, Elements.{All-contains, All-head, All-nil, All-tail, Contains-get_or}}}
pub use Rattle.std.proofs.lemmas.Map.Lookups.{CmpEqualImpliesEq, exact_pairs, exact_unsigned}
pub use Rattle.graph_compact.specs.RowsByPlace.{gathered_rows, lists_of, put_rows, row_cmp, rows_in, tables_of, with_ride, with_table}
pub use Rattle.plan_graph.proofs.Orders.{leg_cmp-Less, leg_cmp-exact, leg_cmp-total, nat_cmp-Less, ordering_then-Less}
pub use Rattle.plan_graph.specs.{Ready.{IsFirstInTime, IsLegOf, IsPickedAfter, IsPruned, IsReadyRide, IsSafeForSome, Stands}, Walked.{leg_cmp, row_by}, declared.GraphRow.GraphRow}
pub use Rattle.plan_graph.specs.declared.{PlaceTable.PlaceTable, Ride.Ride}
pub use Rattle.plan_model.proofs.Lists.{All-from_contains, AllPairs-head, AllPairs-nil, AllPairs-tail, Contains-cons_cases, Contains-head, Contains-nil, Contains-tail}
pub use Rattle.plan_model.specs.{Network.NetworkModel, Unfold.{arrival_of, by_place, end_of, outcomes_of, unfolding_of}, declared.model.Leg.Leg}
