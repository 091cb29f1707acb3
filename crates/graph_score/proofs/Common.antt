-- The names that most proofs of this crate cite, passed on from one place. Declares nothing.
pub use Rattle.std.proofs.Common.{All, AllPairs, Bool, Contains, IsPermutation, List, MatchOption, None, Option, Some, [], ap, append-nil, append_assoc, arith, cond, count_by, drop, false}
pub use Rattle.std.proofs.Common.{flat_map, get_or, get_or-set_other, get_or-set_same, get_or-take, inl, inr, length, length-append, length-set, length-take, length-take-le, map, nat_lt, refl}
pub use Rattle.std.proofs.Common.{set, slice_index_or, subst, suc, sym, take, take-append-drop, take_all, true, zero, ℕ, ◌*◌, ◌++◌, ◌+◌, ◌-◌, ◌<◌, ◌==◌, ◌^◌, ◌∙◌, ◌∷◌, ◌≡◌, ◌≢◌, ◌≤◌, ◌⊎◌}
pub use Rattle.std.proofs.lemmas.{Bool.{both_ways, cases_Bool, cases_eq, cases_lt, eq-eqb, ne_eqb, Decides.nat_tests}, List.{drop_more, get_or_append_left, get_or_at, Elements.All-append}}
pub use Rattle.std.proofs.lemmas.List.Elements.{All-cons, All-contains, All-map, All-nil, All-tail, Contains-append_cases, Contains-append_left, Contains-append_right}
pub use Rattle.std.specs.List.{AllWithin}
pub use Rattle.arrayvec.specs.ArrayVec.{array_vec_len}
pub use Rattle.interval_fixed.specs.Interval.{Interval}
pub use Rattle.plan_graph.proofs.Picked.{row_of_pick, rows_of_place-by}
pub use Rattle.plan_graph.specs.{Unfold.{pick_at, rows_of_place, unfold_plan}, Ready.IsLegOf, Tidy.{IsFit, IsFitRow, IsFitStart}, declared.{PlaceTable.PlaceTable, PlanGraph.PlanGraph}}
pub use Rattle.plan_model.proofs.{Boarding.{boards_later, limit_of-some, way_takes}, Lists.{All-from_contains, Contains-cons_cases, Contains-from_map, Contains-head, Contains-map}}
pub use Rattle.plan_model.specs.{DelayRows.EachKid, Network.{IsValid, arr_of, count, dep_of, no_connection, outcomes, to_of, NetworkModel}, Order.{IsInOrder, departure_of}, Strategy.AreSafe}
pub use Rattle.plan_model.specs.{Strategy.{IsBoardable, IsSafe, IsSafeFor}, Tree.{Done, Kid, Kids, Nil, Ride, Stuck, Tree, height, height_of}, Unfold.{by_place, end_of, kids_after, outcomes_of}}
pub use Rattle.plan_model.specs.{Unfold.{ride_or_stuck, unfold_after}, declared.{departure.Departure.Departure, model.{Leg.Leg, Outcome.Outcome, Query.Query}}}
unfoldable pub use Rattle.plan_model.specs.Network.{connection}
pub use Rattle.graph_score.specs.{Legs.{AreExits, exit_of, IsFirstWrong, IsFitLeg, legs_in, legs_of, start_leg}, Scores.{Fails, FailsIn, IsFirstFailure, IsScoreOf, IsScored, IsUnsafe, span_of}}
pub use Rattle.graph_score.specs.{Scores.spans_of, Steps.{AreFitRows, AreOutlooks, IsOutlook, arrived_outlook, blend_of, by_leg, failure, first_failure_of, mean_or, no_outlook, outlook_at}}
pub use Rattle.graph_score.specs.{Steps.{outlook_of, outlooks_after, ride_by_rows, sooner_failure, spans_in, with_outlook}, declared.legs.GraphLeg.{GraphLeg, TheVariants.{Row, Start}}}
pub use Rattle.graph_score.specs.declared.outlooks.{Failure.Failure, Outlook.{Outlook, TheVariants.{Failing, Safe}}}
