-- The rows of `transfers.txt`: the forms of their fields (GTFS Schedule reference), their transfers between places, and their faults. Row i is line i + 2.
use Rattle.std.specs.Prelude.{ℕ, ◌==◌, Bool, true, false, ◌||◌, List, length, Option, Some, None, if◌then◌else◌, codes, ◌+◌, ◌&&◌, slice_index, Result, Ok}
use Rattle.std.specs.{Prelude.{option_map, [], ◌∷◌}, Str.bytes_eq, Option.option_or, Result.result_err}
use Rattle.plan_model.specs.Results.{and_then, require, value_or}
use Rattle.clock_text.specs.Digits.{optional_seconds_of}
use Rattle.csv_rows.specs.declared.columns.Column.{Column, TheVariants.{FromStopId, ToStopId, TransferType, MinTransferTime, FromRouteId, ToRouteId}}
use Rattle.csv_rows.specs.declared.{columns.Column.TheVariants.{FromTripId, ToTripId}, feed_tables.{Table.TheVariants.Transfers, FeedFault.FeedFault}}
use Rattle.csv_rows.specs.{declared.feed_tables.FeedFault.TheVariants.{BadField, UnknownKey}, Lists.first_below, Ids.name_in, RowFaults.first_missing}
use Rattle.csv_rows.specs.Tables.{row_count, number_in, index_of, field_at}
use Rattle.gtfs_tables.specs.Feeds.{FeedParts}
use Rattle.change_times.specs.declared.transfers.{Transfer.Transfer, TransferColumns.TransferColumns}

-- whether a transfer wants a time at least: type 2 does, and an empty type is 0
abbrev pub is_timed_in : List ℕ → Option Bool
is_timed_in text =
    if bytes_eq text (codes "2") then Some true
    else if length text == 0 || (bytes_eq text (codes "0") || (bytes_eq text (codes "1") || (bytes_eq text (codes "3") || (bytes_eq text (codes "4") || bytes_eq text (codes "5"))))) then Some false
    else None

-- the place of the stop of this id
abbrev pub place_of_stop : FeedParts → List ℕ → Option ℕ
place_of_stop feed id = option_map (λ stop. slice_index feed.places stop) (number_in id feed.stop_ids)

-- the place of the stop that a field names
abbrev pub place_named_by : FeedParts → ℕ → Column → List ℕ → Result ℕ FeedFault
place_named_by feed line column text =
    require (name_in text) (BadField Transfers line column) (λ id.
    require (place_of_stop feed id) (UnknownKey Transfers line column) (λ place. Ok place))

-- the transfer from the place of the first stop to that of the second, where it has seconds
abbrev pub transfer_between : (from to : ℕ) → Option ℕ → Option Transfer
transfer_between from to seconds = option_map (λ s. record { from = from; to = to; seconds = s }) seconds

-- the transfer of these fields, or the first of them that is not of its form or names no stop
abbrev pub timed_transfer_from : FeedParts → ℕ → (from to seconds : List ℕ) → Result (Option Transfer) FeedFault
timed_transfer_from feed line from to seconds =
    and_then (place_named_by feed line FromStopId from) (λ from'.
    and_then (place_named_by feed line ToStopId to) (λ to'.
    require (optional_seconds_of seconds) (BadField Transfers line MinTransferTime) (λ seconds'.
    Ok (transfer_between from' to' seconds'))))

-- whether a row is for each route and each trip
abbrev pub is_general : (from_route to_route from_trip to_trip : List ℕ) → Bool
is_general from_route to_route from_trip to_trip =
    length from_route == 0 && (length to_route == 0 && (length from_trip == 0 && length to_trip == 0))

-- a row of another type than 2, or for some routes or trips, has no transfer, and its other fields are not looked at
abbrev pub transfer_from : (kind : List ℕ) → ℕ → Bool → Result (Option Transfer) FeedFault → Result (Option Transfer) FeedFault
transfer_from kind line general timed =
    require (is_timed_in kind) (BadField Transfers line TransferType) (λ is_timed.
    if is_timed && general then timed else Ok None)

-- the indexes of the columns
abbrev pub transfer_columns : List (List (List ℕ)) → TransferColumns
transfer_columns t = record {
  from = index_of FromStopId t;
  to = index_of ToStopId t;
  kind = index_of TransferType t;
  seconds = index_of MinTransferTime t;
  from_route = index_of FromRouteId t;
  to_route = index_of ToRouteId t;
  from_trip = index_of FromTripId t;
  to_trip = index_of ToTripId t;
}

abbrev pub timed_transfer_in : FeedParts → List (List (List ℕ)) → TransferColumns → ℕ → Result (Option Transfer) FeedFault
timed_transfer_in feed t c i = timed_transfer_from feed (i + 2) (field_at t c.from i) (field_at t c.to i) (field_at t c.seconds i)

abbrev pub is_general_in : List (List (List ℕ)) → TransferColumns → ℕ → Bool
is_general_in t c i = is_general (field_at t c.from_route i) (field_at t c.to_route i) (field_at t c.from_trip i) (field_at t c.to_trip i)

-- the transfer of row i, or the first of its fields that is not of its form or names no stop
abbrev pub transfer_in : FeedParts → List (List (List ℕ)) → TransferColumns → ℕ → Result (Option Transfer) FeedFault
transfer_in feed t c i = transfer_from (field_at t c.kind i) (i + 2) (is_general_in t c i) (timed_transfer_in feed t c i)

unfoldable pub transfer_at : FeedParts → List (List (List ℕ)) → ℕ → Result (Option Transfer) FeedFault
transfer_at feed t i = transfer_in feed t (transfer_columns t) i

-- the fault of row i
abbrev pub bad_transfer : FeedParts → List (List (List ℕ)) → ℕ → Option FeedFault
bad_transfer feed t i = result_err (transfer_at feed t i)

-- the transfer of row i, where it has one
abbrev pub transfer_reported_by : FeedParts → List (List (List ℕ)) → ℕ → Option Transfer
transfer_reported_by feed t i = value_or None (transfer_at feed t i)

-- the first fault of the transfers
unfoldable pub transfers_fault : FeedParts → List (List (List ℕ)) → Option FeedFault
transfers_fault feed t = option_or (first_missing Transfers t (FromStopId ∷ ToStopId ∷ TransferType ∷ [])) (first_below (bad_transfer feed t) (row_count t))
