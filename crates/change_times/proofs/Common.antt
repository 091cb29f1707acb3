-- The names that most proofs of this crate cite, passed on from one place. Declares nothing.
pub use Rattle.std.proofs.Common.{All, Bool, Err, IfOk, IfSome, List, None, Ok, OnOk, Option, Result, Some, [], add-one, ap, arith, count_by, get_or, get_or-set_other, get_or-set_same}
pub use Rattle.std.proofs.Common.{if◌then◌else◌, is_none, length, length-append, max, nat_eq, refl, set, subst, suc, sym, take, take_all, zero, ℕ, ⊎_elim, ◌++◌, ◌+◌, ◌-◌, ◌<◌, ◌∙◌, ◌∷◌, ◌≡◌, ◌≤◌}
pub use Rattle.std.proofs.lemmas.{Bool.{cases_eq, cases_lt, Decides.nat_tests}, List.{append-nil, get_or_append_left, get_or_default, get_or_past, get_or_push, take_more, Elements.All-append}}
pub use Rattle.std.proofs.lemmas.List.Elements.{All-get_or, All-nil, All-push, All-weaker}
pub use Rattle.csv_rows.proofs.FaultLemmas.{fault-at, fault-first, match_raised, reports-then}
pub use Rattle.csv_rows.specs.Tables.{row_count}
pub use Rattle.gtfs_tables.specs.Feeds.{FeedParts}
pub use Rattle.plan_model.specs.{Network.AreLinksInto, declared.model.Way.Way}
pub use Rattle.table_files.specs.{Loading.{loaded_rows, Records}, declared.loading.Loaded.Loaded}
pub use Rattle.change_times.specs.{Changes.{AreCollectedChanges, AreReportedBySome, ChangeParts, fault_of_transfers, greatest_link, links_of}, Walks.{greater, link_between, most_to}}
pub use Rattle.change_times.specs.{Walks.{seconds_between, walk_to, walks_of}, Links.{ComeBefore, link_from, ways_at}, Transfers.{bad_transfer, transfer_columns, transfer_in}}
pub use Rattle.change_times.specs.{Transfers.transfer_reported_by, TransfersSoFar.AreCollected, declared.{changes.TransfersSoFar.TransfersSoFar, links.Walk.Walk, transfers.Transfer.Transfer}}
unfoldable pub use Rattle.change_times.specs.{Walks.greatest_below, Links.ways_below, Transfers.{transfer_at, transfers_fault}}
