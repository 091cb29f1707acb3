-- The names that most proofs of this crate cite, passed on from one place. Declares nothing.
pub use Rattle.std.proofs.Common.{All, AllPairs, Bool, Bor, Contains, Equal, Greater, Less, List, MatchBool, None, Option, Ordering, Some, [], ap, ap₂, arith, drop, false, find, if◌then◌else◌, inl}
pub use Rattle.std.proofs.Common.{inr, length, lt-ltb, ltb-false, ltb-true, map, nat_cmp, nat_le, nat_lt, ne_eqb, not, refl, rules, slice_index_or, subst, suc, sym, true, zero, ℕ, ◌&&◌, ◌++◌, ◌+◌}
pub use Rattle.std.proofs.{Common.{◌<◌, ◌==◌, ◌∙◌, ◌∷◌, ◌≡◌, ◌≢◌, ◌≤◌, ◌⊎◌}, lemmas.{Bool.{cases_Bool, cases_eq, cases_lt, eq-eqb, false≢true, le-leb, lt-leb, Decides.nat_tests}, Grind.common_steps}}
pub use Rattle.std.proofs.lemmas.List.{get_or_default, Elements.{All-contains, All-from_recursion, All-map, All-nil, All-tail, All-weaker, Contains-append_cases, Contains-append_left}}
pub use Rattle.std.proofs.lemmas.List.{Elements.{Contains-append_right, Contains-push, Contains-push_cases, recursion_from_All}, Recursion.{found_at, found_nowhere}}
pub use Rattle.std.proofs.lemmas.{List.Sorted.IsPartitionPoint-from_clause, Map.{Keys.{Less-from_sorted, sorted_head, sorted_tail}, Lookups.CmpEqualImpliesEq, Views.All-insert_key}}
pub use Rattle.std.proofs.lemmas.Map.Views.{Contains-from_any, tells_apart}
pub use Rattle.std.specs.{Cmp.{IsTotalOrder, on_total, then_total}, List.{AllByRecursion, AllWithin, list_any, Sorted.{IsPartitionPoint, IsPartitionedBy}}, Ordering.match_ordering}
pub use Rattle.std.specs.Ordering.{ordering_reverse, ordering_then}
unfoldable pub use Rattle.std.specs.List.Sorted.{IsStrictlySortedBy}
pub use Rattle.plan_model.proofs.Lists.{All-from_contains, AllPairs-head, AllPairs-map, AllPairs-nil, AllPairs-tail, AllPairs-with, Contains-cons_cases, Contains-from_map, Contains-head}
pub use Rattle.plan_model.proofs.Lists.{Contains-map, Contains-nil, Contains-tail}
pub use Rattle.plan_model.specs.{Network.{IsValid, arr_of, count, NetworkModel}, Tree.Tree, Unfold.{arrival_of, end_of, kids_after, outcomes_of, ride_or_stuck, unfold_after, unfold_from}}
pub use Rattle.plan_model.specs.{Unfold.unfolding_of, Ways.limit_of, declared.model.{Leg.Leg, Outcome.Outcome, Query.Query}}
pub use Rattle.plan_graph.specs.{Unfold.{HasRisingTables, Precedes, is_ride_of, is_table_of, leg_lt, pick_after, pick_at, pick_row, rows_after, rows_of_place}, Walked.{IsReached, StandsSafely}}
pub use Rattle.plan_graph.specs.{Walked.{leg_cmp, ride_of_leg, row_by, rows_for, table_after, with_leg, with_row, HasRideOf, IsTaken, IsWalked}, Ready.{IsBusy, IsFirstInTime, IsLegOf, IsPickedAfter}}
pub use Rattle.plan_graph.specs.{Ready.{IsReady, IsReadyRide, IsReadyRow, IsSafeForSome, MayPrecede, Stands, StandsIn, pick_in_time}, declared.{GraphRow.GraphRow, PlaceTable.PlaceTable, Ride.Ride}}
