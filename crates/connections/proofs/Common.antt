-- The names that most proofs of this crate cite, passed on from one place. Declares nothing.
pub use Rattle.std.proofs.Common.{All, AllPairs, Bool, Contains, IfNone, IfSome, IsAscii, IsPermutation, IsSorted, List, None, Option, Ordering, SFits, Some, [], add-one, ap, append-nil}
pub use Rattle.std.proofs.Common.{append_assoc, ap₂, arith, below_more, decimal, drop, false, get_or, if◌then◌else◌, inl, inr, int_le, is_lt, le-leb, le-ltb, leb-true, length, length-append}
pub use Rattle.std.proofs.Common.{lt-ltb, ltb-true, map, max, min, nat_cmp, nat_le, nat_lt, negsuc, pos, refl, rules, slice_index, slice_index_or, subst, suc, sum_by, sym, take, true}
pub use Rattle.std.proofs.{Common.{unsigned_abs, w32, zero, ℕ, ℤ, ⊎_elim, ◌&&◌, ◌*◌, ◌++◌, ◌+ℤ◌, ◌+◌, ◌-◌, ◌<ℤ◌, ◌<◌, ◌^◌, ◌∙◌, ◌∷◌, ◌≡◌, ◌≢◌, ◌≤ℤ◌, ◌≤◌, ◌⊎◌}, Math.Nat.add-mul}
pub use Rattle.std.proofs.{Math.Nat.{le-mul_of_pos_right, mul-le-mul_right, suc-mul, zero-mul}, lemmas.Bool.{and_from, and_parts, cases_Bool, cases_eq, cases_lt, cond_both, eqb-true}}
pub use Rattle.std.proofs.lemmas.{Bool.{false_from_ne_true, lt-leb, Decides.nat_tests}, Int.{by_lt_z, ints, to_z-of_z}, List.{drop_at, get_or-append_right, get_or_append_left, get_or_default}}
pub use Rattle.std.proofs.lemmas.List.{get_or_past, get_or_push, length-map, map-append, nil_from_length, take_all, take_at, take_more, Elements.{All-append, All-cons, All-get_or, All-head}}
pub use Rattle.std.proofs.lemmas.List.{Elements.{All-map, All-nil, All-tail, All-weaker, Contains-append_left, Contains-append_right, Contains-get_or}, Sums.{sum_by-append, sum_by-cons}}
pub use Rattle.std.proofs.lemmas.{List.Sums.{sum_by-le, sum_by_more}, Option.{get_or_from_slice_get, same_Some}, Grind.common_steps}
pub use Rattle.std.specs.{Char.is_ascii_digit, List.list_all}
pub use Rattle.change_times.specs.Changes.{ChangeParts, LinksComeFrom, links_of, place_seconds}
pub use Rattle.clock_text.specs.Times.{HasDate, date_at}
pub use Rattle.csv_rows.proofs.{IdLemmas.{got, number-contained, number-here}, ListLemmas.{get-list_below, length-list_below, list_below-next, list_below-zero}}
pub use Rattle.csv_rows.specs.{Ids.AreIds, Lists.list_below, Tables.number_in}
pub use Rattle.delay_table.specs.{DelayLists.{DelayLists, class_for}, Groups.{numbered_route, routes_of}}
pub use Rattle.gtfs_tables.specs.{Feeds.FeedParts, Timed.{AreTimed, IsTimed, kept_at, rows_of, AreRepeating, AreRepeats, IsFrequency, IsSmall, repeat_at}}
pub use Rattle.plan_model.proofs.Lists.{AllPairs-append, AllPairs-first, AllPairs-map, AllPairs-nil, AllPairs-one, AllPairs-tail}
pub use Rattle.plan_model.specs.{Bounds.{end_of_arrivals, end_of_steps, most_connections}, NameLists.{IsTrimmed, NameLists, NamesFit}, Network.{AreLinksInto, IsValid, no_connection}}
pub use Rattle.plan_model.specs.{Network.{NetworkModel, plain_network}, declared.model.{Connection.Connection, PlaceId.PlaceId, Way.Way}}
unfoldable pub use Rattle.plan_model.specs.Network.{change_of, connection, row_of}
pub use Rattle.run_repeat.specs.Runs.{AreBelow, IsRunOf, departure}
pub use Rattle.service_days.specs.Services.{ServiceParts}
pub use Rattle.stop_times.specs.{StopTimeBounds.end_of_times, declared.rows.StopRow.StopRow}
pub use Rattle.trip_frequencies.specs.declared.frequencies.FrequencyRow.{FrequencyRow}
pub use Rattle.connections.specs.{Counts.{HaveWays, count_in, each_of, entries_in, row_sum, runs_sum, steps_sum, trip_sum, window_sum}, FeedNetworks.{AreChanges, AreRunNames, IsRunName}}
pub use Rattle.connections.specs.{FeedNetworks.{class_of_trip, connection_from, route_of, start_text}, FeedRuns.{AreRunsOf, HaveConnections, IsDay, IsRunOfFeed, IsSmallRepeat, AreOverBy}}
pub use Rattle.connections.specs.{FeedRuns.NoneRuns, Joins.only_if, Origins.{moment_of, origin_of_day}, RepeatedRuns.{in_order, is_repeat, origin_at, repeat_of, repeat_precedes, with_repeat}}
pub use Rattle.connections.specs.{RouteNumbers.{IsClassOfHour, route_number}, Steps.{DepartInOrder, DepartOnDay, departs, has_connection, is_active_trip, steps_of}, TripRuns.days}
pub use Rattle.connections.specs.{TripRuns.{frequencies_of, no_run, own_run, repeat_run, run_at, run_steps, runs_of_trip, trip_runs, window_runs}, Window.{IsWindow, day_at, holds}}
pub use Rattle.connections.specs.declared.{origins.{Origin.Origin, ServiceDay.ServiceDay}, repeats.Repeat.Repeat, runs.Run.Run, window.Window.Window}
unfoldable pub use Rattle.connections.specs.{Counts.{day_sum, days_sum, leaving_sum, rows_sum}, FeedNetworks.{connections_below, run_connections}, Joins.{join_below, sum_below}}
unfoldable pub use Rattle.connections.specs.{RepeatedRuns.{row_repeats, rows_repeats}, Steps.steps_below, TripRuns.{day_runs, runs_below}}
pub use mathlib.Core.Path.{fun_ext}
