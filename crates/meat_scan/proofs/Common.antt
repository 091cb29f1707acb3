-- The names that most proofs of this crate cite, passed on from one place. Declares nothing.
pub use Rattle.std.proofs.Common.{All, AllPairs, Bool, IsTrue, List, MatchOption, None, Option, Some, [], ap, append-nil, append_assoc, arith, cond, count_by, drop, eq-eqb, find, get_or}
pub use Rattle.std.proofs.Common.{get_or-set_other, get_or-set_same, get_or-take, inl, inr, is_some, length, length-set, length-take-le, map, nat_le, ne_eqb, option_map, refl, replicate, set}
pub use Rattle.std.proofs.{Common.{slice_get, subst, suc, sym, take, true, zero, ℕ, ◌++◌, ◌+◌, ◌-◌, ◌<◌, ◌==◌, ◌∙◌, ◌∷◌, ◌≡◌, ◌≢◌, ◌≤◌, ◌⊎◌}, lemmas.Bool.{cases_eq, cases_lt, Decides.nat_tests}}
pub use Rattle.std.proofs.lemmas.{Grind.common_steps, List.{length-replicate, length_push, take_more, Elements.{All-cons, All-head, All-nil, All-tail}, Sums.{sum_by-append, sum_by-cons}}}
pub use Rattle.std.proofs.lemmas.List.Sums.{sum_by_push}
pub use Rattle.std.specs.Option.{option_or}
pub use Rattle.plan_model.proofs.{Boarding.{boards_later, limit_of-some, way_of-listed, way_takes, ways_into-distinct}, ScanOrders.{IsNext, Known, Never, all_known, count_in_order, has_each_id}}
pub use Rattle.plan_model.proofs.ScanOrders.{next_of, whole_order}
pub use Rattle.plan_model.specs.{DelayRows.{EachKid, IsValidRow}, Network.{IsValid, arr_of, count, dep_of, from_of, no_connection, outcomes, run_of, to_of, NetworkModel}, Order.IsPrefixUpTo}
pub use Rattle.plan_model.specs.{Order.IsScanOrder, Strategy.{AreSafe, IsBoardable, IsBoardableAtStart, IsLeg, IsSafe, IsSafeFor}, Tree.{Done, Kid, Kids, Nil, Ride, Stuck, Tree, height}}
pub use Rattle.plan_model.specs.{Tree.height_of, Unfold.{by_place, end_of, kids_after, ride_of, ride_or_stuck, unfold_after, unfold_from, unfolding_of}, Ways.{limit_of, ways_into}}
pub use Rattle.plan_model.specs.declared.model.{Connection.Connection, ConnectionId.ConnectionId, Leg.Leg, Outcome.Outcome, Query.Query}
unfoldable pub use Rattle.plan_model.specs.Network.{connection}
pub use Rattle.stop_profile.proofs.{Gaps.written_back, Inserted.{gaps-rows_with_new, look_step, rises-rows_with_new}, Looks.{picked_holds, picked_in_time}}
pub use Rattle.stop_profile.specs.{Inserts.{RowsRise, row_in_time, rows_with_new, ShownProfile}, declared.Row.Row}
pub use Rattle.trip_exit.specs.Offers.{Exit, exit_after_offer}
pub use Rattle.value_laws.specs.ScoreLaws.{ScoreLaws, Scoring}
pub use Rattle.meat_scan.specs.{Rules.{FollowsRules, IsByRules, Kept, kept_after, kept_in, kept_leg, kept_next}, ScanResult.{ScanResult, chosen_at, chosen_by, found_rows, leg_choice}}
pub use Rattle.meat_scan.specs.ScanTables.{FitsTables, FitsTablesBy, HasRoom, HasRoomFor, IsEmpty, ShownTables, boardable, capacity_at, exit_at, has_way, is_boardable_by, no_profile}
pub use Rattle.meat_scan.specs.{ScanTables.{rows_of_profile, spare_at}, Solves.{HasAnswers, IsSafeAt, IsStartAnswer, SolvesEach, SolvesStart}, Step.{alighted_by, boarding_exit, exits_next}}
pub use Rattle.meat_scan.specs.Step.{exits_with, leg_of, rows_next, rows_with, rows_with_leg, start_next, start_with, way_of_place, with_way, in_front, value_after_arrival, values_after}
