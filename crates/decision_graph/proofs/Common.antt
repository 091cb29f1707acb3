-- The names that most proofs of this crate cite, passed on from one place. Declares nothing.
pub use Rattle.std.proofs.{Common.{List, MatchOption, None, Option, Some, [], ap, arith, nat_le, refl, subst, sym, true, ℕ, ◌*◌, ◌<◌, ◌^◌, ◌∙◌, ◌≡◌, ◌≢◌, ◌≤◌}, lemmas.Bool.Decides.nat_tests}
pub use Rattle.std.proofs.lemmas.Option.{MatchOption-at_some}
pub use Rattle.decision_graph.specs.{Planned.{HasSteadyChoice, IsExpanded, IsExpandedBy, IsNoneSafe, IsPlanned, IsPlannedBy}, GraphValues.{IsBest, IsBestBy}, LeastChances.IsLeastChance}
pub use Rattle.interval_fixed.specs.Interval.{Interval}
pub use Rattle.meat_scan.specs.Rules.{FollowsRules, IsByRules}
pub use Rattle.plan_graph.specs.{Unfold.{unfold_expanded, unfold_plan}, declared.{ExpandedGraph.ExpandedGraph, PlanGraph.PlanGraph, Ride.Ride as RideTable}}
pub use Rattle.plan_model.specs.{Network.NetworkModel, Strategy.IsLeastWorst, Tree.{Done, Ride, Stuck, Tree, height, worst}, declared.model.{Leg.Leg, Query.Query}}
pub use Rattle.value_laws.specs.ScoreLaws.{ScoreLaws, Scoring}
