-- The names that most proofs of this crate cite, passed on from one place. Declares nothing.
pub use Rattle.std.proofs.Common.{All, AllPairs, IsSome, List, MatchOption, None, Option, Some, [], ap, append-nil, append_assoc, arith, false, inl, inr, length, map, nat_le, refl, replicate}
pub use Rattle.std.proofs.{Common.{slice_index_or, take, take_all, subst, suc, sym, true, zero, ℕ, ⊎_elim, ◌++◌, ◌+◌, ◌-◌, ◌<◌, ◌↔◌, ◌∙◌, ◌∷◌, ◌≡◌, ◌≢◌, ◌≤◌, ◌==◌, ◌⊎◌}, lemmas.Bool.cases_eq}
pub use Rattle.std.proofs.lemmas.Bool.{cases_lt, cases_order, Decides.nat_tests}
pub use Rattle.std.specs.List.{range_with_len}
pub use Rattle.plan_model.specs.{Bounds.end_of_arrivals, Gates.{FitGates, HasGates, IsGate, extended_by, links_with_gates, places_with, source_at, way_from, ways_from_gates}}
pub use Rattle.plan_model.specs.{Network.{AreLinksInto, IsValid, arr_of, count, dep_of, links_into, NetworkModel, plain_network}, Strategy.{IsLeastWorst, IsLeg}, Tree.{Done, Kids, Ride, Stuck}}
pub use Rattle.plan_model.specs.{Tree.Tree, Ways.way_of, declared.model.{Connection.Connection, Leg.Leg, Moment.Moment, PlaceId.PlaceId, Query.Query, Way.Way}}
pub use Rattle.value_laws.specs.declared.MeanSpan.{MeanSpan}
pub use Rattle.departure_table.specs.Departures.{BeginsWith, IsASecondAway, IsBestFrom, IsDepartureRow, IsExtendedFor, IsGreatestMoment, IsNoneSafeFrom, IsTable, SafeAfter, SafeFrom}
pub use Rattle.departure_table.specs.{Departures.{SaysOfSource, SolvesArrivals, first_row_by}, Looked.{AreLooked, row_found, row_of_choice}, declared.DepartureRow.DepartureRow}
