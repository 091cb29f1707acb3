-- The names that most proofs of this crate cite, passed on from one place. Declares nothing.
pub use Rattle.std.proofs.Common.{All, AllPairs, Bool, Contains, List, MatchOption, None, Option, Some, [], ap, append-nil, arith, drop, false, get_or, if◌then◌else◌, inl, inr, length, map}
pub use Rattle.std.proofs.{Common.{option_map, refl, slice_index_or, subst, sym, true, ℕ, ◌++◌, ◌+◌, ◌<◌, ◌∙◌, ◌∷◌, ◌≡◌, ◌≢◌, ◌≤◌}, lemmas.{Bool.Decides.nat_tests, List.Elements.All-contains}}
pub use Rattle.std.proofs.lemmas.List.Elements.{All-head, All-map, All-tail}
pub use Rattle.graph_prune.specs.Limits.{by_limits, is_last, ride_by_limits, with_limit}
pub use Rattle.plan_graph.proofs.{Graphs.{IsKeptAfter, busy, picks_taken, ready}, Rides.{ride_there, rows_after-own}, Tables.{first_pick, first_there, in_time_here, in_time_next, one_found}}
pub use Rattle.plan_graph.proofs.Tables.{picked_there}
pub use Rattle.plan_graph.specs.{Coherent.{Follows, IsSteady}, Unfold.{HasRisingRides, Precedes, pick_after, pick_row}, Ready.{IsBusy, IsByLimits, IsFirstInTime, IsLegOf, IsPickedAfter}}
pub use Rattle.plan_graph.specs.{Ready.{IsPruned, IsReady, IsReadyRide, IsReadyRow, IsSafeForSome, MayPrecede, Stands, pick_in_time}, Walked.row_by, declared.ExpandedGraph.ExpandedGraph}
pub use Rattle.plan_graph.specs.declared.{GraphRow.GraphRow, Ride.Ride}
pub use Rattle.plan_model.proofs.Lists.{All-from_contains, AllPairs-head, AllPairs-map, AllPairs-nil, AllPairs-tail, AllPairs-with, Contains-cons_cases, Contains-head, Contains-map, Contains-nil}
pub use Rattle.plan_model.proofs.Lists.{Contains-tail}
pub use Rattle.plan_model.specs.{Network.NetworkModel, Unfold.{arrival_of, end_of, outcomes_of, unfolding_of}, Ways.limit_of, declared.model.{Leg.Leg, Outcome.Outcome, Query.Query}}
