-- The names that most proofs of this crate cite, passed on from one place. Declares nothing.
pub use Rattle.std.proofs.Common.{All, Contains, List, MatchOption, Option, Some, [], ap, arith, get_or, inl, inr, le-leb, leb-true, length, map, nat_le, refl, subst, suc, sum_by, sym, take}
pub use Rattle.std.proofs.{Common.{true, zero, ℕ, ⊎_elim, ◌%◌, ◌*◌, ◌+◌, ◌-◌, ◌/◌, ◌<◌, ◌^◌, ◌∙◌, ◌∷◌, ◌≡◌, ◌≤◌}, Math.Nat.{div-div-eq-div-mul, mul-add, mul-le-mul_left, mul_comm}}
pub use Rattle.std.proofs.lemmas.{Bool.Decides.nat_tests, List.{get_or-map, length-map, map_more}}
pub use Rattle.interval_fixed.specs.Interval.{Interval, mean_of, weighted_hi}
pub use Rattle.plan_graph.specs.{Tidy.{IsFit, IsFitRow, IsFitStart, IsFitTable, IsPickedIn, IsTidy}, Unfold.unfold_plan, declared.{GraphRow.GraphRow, PlanGraph.PlanGraph}}
pub use Rattle.plan_model.proofs.{Boarding.{earlier_by-is, limit_of-some, way_takes}, Views.{departs, leg_there, same_way, seen, start_back, start_there}}
pub use Rattle.plan_model.specs.{Bounds.{certainty, end_of_arrivals, end_of_time}, Expected.{LateBelow, LateCovers, late}, Network.{IsValid, IsValidConnection, PrecedesByStep, arr_of, count}}
pub use Rattle.plan_model.specs.{Network.{dep_of, from_of, no_connection, outcomes, run_of, step_of, to_of, NetworkModel}, Strategy.{AreSafe, IsSafe, IsSafeFor, IsSafeFromStart}, Tree.Done}
pub use Rattle.plan_model.specs.{Tree.{Kid, Kids, Nil, Ride, Stuck, Tree}, View.{IsSeen, IsView, all_later_by, later_by}, declared.model.{Outcome.Outcome, Query.Query}}
unfoldable pub use Rattle.plan_model.specs.Network.{change_of, connection, row_of}
pub use Rattle.value_laws.specs.Spans.{rounded_down, rounded_up, sum_down, sum_up}
pub use Rattle.late_chance.specs.{Chances.{itself, promised}, declared.shift.TheConstants.SECONDS_PER_WEEK, LaterGraphs.{IsShown, LaterAlike, later_graph, later_query, later_row, later_table}}
pub use Rattle.late_chance.specs.Punctual.{IsAboutNetwork, IsPunctual, PunctualAlike, asked_for, seen_for, shift_for, shifted_connection, shifted_parts}
