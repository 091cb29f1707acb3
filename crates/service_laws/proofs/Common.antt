-- The names that most proofs of this crate cite, passed on from one place. Declares nothing.
pub use Rattle.std.proofs.Common.{All, AllPairs, Contains, List, None, Option, Some, [], ap, arith, inl, inr, length, refl, subst, sym, ℕ, ◌+◌, ◌*◌, ◌-◌, ◌<◌, ◌^◌, ◌∙◌, ◌∷◌, ◌≡◌, ◌≤◌}
pub use Rattle.std.proofs.{Common.{mul-le-mul_left, mul-le-mul_right, true, ◌==◌}, lemmas.{Bool.{cases_lt, Decides.eqb_tells}, List.{get_or_default, Elements.{All-contains, All-tail}}}}
pub use Rattle.plan_model.proofs.Lists.{All-from_contains, AllPairs-head, AllPairs-tail, Contains-cons_cases, Contains-head, Contains-nil, Contains-tail}
pub use Rattle.plan_model.specs.{Expected.{weighted_by, weighted_kids}, Network.{IsValid, arr_of, count, from_of, links_into, no_connection, outcomes, to_of, NetworkModel}, Strategy.AreSafe}
pub use Rattle.plan_model.specs.{Strategy.{IsBoardable, IsBoardableAtStart, IsInTime, IsLeastWorst, IsLeg, IsSafe, IsSafeFromStart}, Tree.{Done, Kid, Kids, Nil, Ride, Stuck, Tree, height}}
pub use Rattle.plan_model.specs.{Tree.{height_of, worst, worst_of}, Ways.{own_way, way_in, way_of}, declared.model.{Connection.Connection, Moment.Moment, Outcome.Outcome, Way.Way}}
unfoldable pub use Rattle.plan_model.specs.Network.{change_of, connection, row_of}
pub use Rattle.service_laws.specs.{Changed.{AreLessLate, AreNoFewer, AreAmong, AreShorter, own, renamed, with_changes, with_classes, with_connections, with_links}, Embeds.{IsAsGood, IsNoWorse}}
pub use Rattle.service_laws.specs.Embeds.{IsSafeToo, Rises, AreBeside, Embeds, EmbedsAlike, EmbedsBy, EmbedsNoLater, IsFound, IsNoLaterThan}
