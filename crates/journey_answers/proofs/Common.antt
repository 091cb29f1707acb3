-- The names that most proofs of this crate cite, passed on from one place. Declares nothing.
pub use Rattle.std.proofs.Common.{All, Bool, Err, List, MatchOption, None, Option, Result, Some, [], ap, arith, if◌then◌else◌, inl, inr, length, nat_le, refl, slice_index_or, subst, suc, sym}
pub use Rattle.std.proofs.{Common.{true, zero, ℕ, ◌*◌, ◌+◌, ◌-◌, ◌/◌, ◌<◌, ◌==◌, ◌∙◌, ◌∷◌, ◌≡◌, ◌≢◌, ◌≤◌}, lemmas.Option.MatchOption-at_some}
pub use Rattle.decision_graph.specs.Planned.{IsNoneSafe}
pub use Rattle.departure_table.specs.declared.DepartureRow.{DepartureRow}
pub use Rattle.graph_score.specs.Scores.{IsScoreOf, IsUnsafe}
pub use Rattle.journey_answers.specs.{Answers.{AnswersExpand, AnswersPlan, InQuery, IsQueryOf, IsWorst}, Departures.{AreByRules, IsRuled, added_query}, Trips.{IsSafeTrip, IsTripFault, replay_as}}
pub use Rattle.journey_answers.specs.Trips.{trip_by}
pub use Rattle.journey_model.specs.{Faults.unread_input, Known.parts_of, Sites.{HasSite, last_printable}, declared.{faults.Fault.TheVariants.{NoMemory, Replay}, problem.Problem.Problem}}
pub use Rattle.journey_report.proofs.TextLemmas.{arrivals, places}
pub use Rattle.journey_report.specs.Findings.{findings_of}
pub use Rattle.plan_graph.specs.{Unfold.unfold_plan, declared.PlanGraph.PlanGraph}
pub use Rattle.plan_model.specs.{Bounds.{last_start, nanos_per_second, seconds_per_day}, Network.{IsValid, arr_of, count, outcomes, to_of, NetworkModel}, Strategy.{AreSafe, IsSafe, IsSafeFor}}
pub use Rattle.plan_model.specs.{Strategy.IsSafeFromStart, Tree.{Done, Kid, Kids, Nil, Ride, Stuck, Tree}, declared.model.{Moment.Moment, Outcome.Outcome, Query.Query}}
pub use Rattle.trip_replay.specs.Walk.{IsAnswer}
