-- The names that most proofs of this crate cite, passed on from one place. Declares nothing.
pub use Rattle.std.proofs.{Common.{All, List, None, Some, ap, ap₂, arith, length, map, rules, slice_index_or, subst, sym, ℕ, ◌+◌, ◌<◌, ◌∙◌, ◌≡◌}, lemmas.List.{get_or-map, length-map, map-append}}
pub use Rattle.std.specs.Result.{result_err}
pub use Rattle.csv_rows.proofs.{FaultLemmas.{fault-at, match_raised}, FirstLemmas.{first-next, first-zero, none-each}, ListLemmas.{get-list_below, length-list_below, list_below-next}}
pub use Rattle.csv_rows.proofs.{ListLemmas.list_below-zero, RowLemmas.name_is}
pub use Rattle.csv_rows.specs.{Lists.{first_below, list_below}, Ids.name_in, Tables.{field, row_count}, declared.columns.Column.TheVariants.{RouteId, ServiceId, StopId, TripId}}
pub use Rattle.feed_lists.specs.{Routes.{bad_route, route_columns, route_in, route_or_none}, Stops.{bad_stop, parent_of, place_from, stop_columns, stop_ids, stop_in, unknown_in, unknown_parent}}
pub use Rattle.feed_lists.specs.Trips.{bad_trip, trip_columns, trip_from, trip_in, trip_or_none}
unfoldable pub use Rattle.feed_lists.specs.{Routes.route_at, Stops.stop_at, Trips.{trip_at, trips_fault}}
pub use Rattle.plan_model.proofs.Results.{result_err-require}
pub use Rattle.plan_model.specs.NameLists.{texts}
