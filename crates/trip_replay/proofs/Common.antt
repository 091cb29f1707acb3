-- The names that most proofs of this crate cite, passed on from one place. Declares nothing.
pub use Rattle.std.proofs.Common.{All, AllPairs, Bool, Contains, Err, IfSome, List, MatchOption, None, Ok, Option, Result, Some, [], ap, arith, drop, eq-eqb, eqb-true, false, if◌then◌else◌, inl}
pub use Rattle.std.proofs.Common.{inr, length, ne_eqb, option_map, refl, slice_index_or, subst, suc, sym, true, zero, ℕ, ◌++◌, ◌+◌, ◌-◌, ◌<◌, ◌==◌, ◌∙◌, ◌∷◌, ◌≡◌, ◌≢◌, ◌≤◌}
pub use Rattle.std.proofs.lemmas.{Bool.{cases_eq, cases_lt, eqb-false}, List.{drop_more, length_push, Elements.{All-contains, All-nil, All-push}}}
pub use Rattle.plan_graph.proofs.Picked.{fit_rises, pick_further, pick_here, picked_leg, row_of_pick, rows_of_place-by, table_further, table_here}
pub use Rattle.plan_graph.specs.{Unfold.{pick_at, pick_row, rows_of_place, unfold_plan}, Ready.{IsLegOf, Stands, StandsIn}, Tidy.{IsFitRow, IsFitStart, IsFitTable, IsPickedIn, IsTidy}}
pub use Rattle.plan_graph.specs.declared.PlaceTable.{PlaceTable}
pub use Rattle.plan_model.specs.{Network.{IsValid, arr_of, count, dep_of, outcomes, to_of, NetworkModel}, Strategy.{AreSafe, IsBoardable, IsSafe, IsSafeFor}, Tree.{Done, Kid, Kids, Nil, Ride}}
pub use Rattle.plan_model.specs.{Tree.{Stuck, Tree}, Unfold.{arrival_of, by_place, end_of, kids_after, outcomes_of, ride_of, ride_or_stuck, unfold_after, unfolding_of}, declared.model.Leg.Leg}
pub use Rattle.plan_model.specs.{Bounds.end_of_arrivals, declared.model.{Outcome.Outcome, Query.Query}}
pub use Rattle.trip_replay.specs.{Rides.{delayed_arrival, has_delay, tree_at, IsRidden, arrival_after, place_after}, Walk.{IsAnswer, IsSafeAnswer, ride_with_delay, trace_of, walk, walk_child}}
pub use Rattle.trip_replay.specs.declared.{Ridden.Ridden, Trace.Trace}
