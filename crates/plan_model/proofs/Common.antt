-- The names that most proofs of this crate cite, passed on from one place. Declares nothing.
pub use Rattle.std.proofs.Common.{All, AllPairs, Bool, Contains, Err, Global, IfNone, IfSome, IsPermutation, IsSorted, IsUtf8, List, None, Ok, Option, Ordering, Result, Some, String, [], add-mul}
pub use Rattle.std.proofs.Common.{ap, append-nil, append_assoc, arith, cond, count_by, drop, eqb, ext_get_or, false, get_or, get_or-drop, get_or-take, if◌then◌else◌, inl, inr, is_lt, is_some}
pub use Rattle.std.proofs.Common.{length, length-append, length-drop, length-take, length-take-le, map, mul-add, mul-le-mul_right, mul_assoc, mul_comm, nat_cmp, nat_lt, option_and_then, refl}
pub use Rattle.std.proofs.Common.{replicate, rules, slice_get, slice_index_or, string_bytes, subst, suc, sum_by, sym, take, take-append-drop, take_all, true, zero, ℕ, ⊎_elim, ◌&&◌, ◌*◌, ◌++◌}
pub use Rattle.std.proofs.{Common.{◌+◌, ◌-◌, ◌/◌, ◌<◌, ◌==◌, ◌^◌, ◌||◌, ◌∙◌, ◌∷◌, ◌≡◌, ◌≢◌, ◌≤◌, ◌⊎◌}, lemmas.Bool.{cases_eq, cases_lt, cases_order, false≢true, Decides.{Decides-eqb, nat_tests}}}
pub use Rattle.std.proofs.lemmas.{Grind.{common_steps, pow_more}, List.{get_or-append_right, get_or-map, get_or_append_left, get_or_at, get_or_default, get_or_past, get_or_push, get_or_read}}
pub use Rattle.std.proofs.lemmas.List.{length-map, length_push, map-append, take_more, Elements.{All-append, All-cons, All-contains, All-map, All-nil, All-tail, Contains-append_cases}}
pub use Rattle.std.proofs.lemmas.List.{Elements.{Contains-append_right, Contains-get_or}, Kept.AllPairs-cons, Sorted.{All-permutation, Contains-permutation, IsPartitionPoint-from_clause}}
pub use Rattle.std.proofs.lemmas.{List.{Sorted.{IsPermutation-map, length_permutation, ranks_by, sorted_far, sum_by-IsPermutation}, Sums.{sum_by-cons, sum_by_push}}, Option.get_or_from_slice_get}
pub use Rattle.std.proofs.lemmas.Option.{slice_get-get_or, slice_get_within}
pub use Rattle.plan_model.specs.{Bounds.{most_connections, seconds_per_day}, DelayRows.IsValidRow, Expected.{BelowBy, CoversBy, arrival, num, weighted_by, weighted_kids}, NameLists.Adds}
pub use Rattle.plan_model.specs.{NameLists.{AreDistinct, AreNames, IsNameList, texts}, Network.{AreLinks, AreLinksInto, IsValid, IsValidConnection, PrecedesByStep, arr_of, count, dep_of}}
pub use Rattle.plan_model.specs.{Network.{from_of, links_into, no_connection, outcomes, run_of, step_of, to_of, NetworkModel}, Order.{IsEarlier, IsInOrder, IsPrefixUpTo, IsScanOrder}}
pub use Rattle.plan_model.specs.{Order.{departure_of, ids_below}, Search.{Rises, StandsBefore, connection_at}, Strategy.{AreSafe, IsBoardable, IsBoardableAtStart, IsInTime, IsLeast}}
pub use Rattle.plan_model.specs.{Strategy.{IsLeastWorst, IsLeg, IsSafe, IsSafeFromStart, Reaches}, Tree.{Done, Kid, Kids, Nil, Ride, Stuck, Tree, height, height_of, worst, worst_of}}
pub use Rattle.plan_model.specs.{Unfold.{arrival_of, end_of, kids_after, outcomes_of, ride_of, ride_or_stuck, unfold_after, unfold_from}, Gates.{HasGates, IsGate, extended_by, links_with_gates}}
pub use Rattle.plan_model.specs.{Gates.{source_at, way_from, way_if_to, ways_from_gates}, View.{IsSeen, IsView, SafeAlike, all_later_by, deadline_later_by, later_by}, Ways.{earlier_by, limit_of}}
pub use Rattle.plan_model.specs.{Ways.{own_way, way_in, way_of, ways_into}, declared.{departure.Departure.Departure, model.{Connection.Connection, ConnectionId.ConnectionId, Leg.Leg}}}
pub use Rattle.plan_model.specs.declared.model.{Moment.Moment, Outcome.Outcome, PlaceId.PlaceId, Way.Way}
unfoldable pub use Rattle.plan_model.specs.Network.{change_of, connection, row_of}
