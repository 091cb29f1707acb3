-- The rows of stop times and the forms of their fields (GTFS Schedule reference). Those that name a stop and a time are kept.
use Rattle.std.specs.Prelude.{ℕ, ◌==◌, Bool, true, false, ◌||◌, List, length, Option, Some, None, option_map, if◌then◌else◌, codes, ◌≡◌, ◌+◌, nat_lt, ◌&&◌, []}
use Rattle.std.specs.{Prelude.{slice_index, slice_index_or, IfSome, Result, Ok, is_some}, Str.bytes_eq, Option.option_or, Result.result_err}
use Rattle.clock_text.specs.{Times.time_at, Digits.whole_of}
use Rattle.plan_model.specs.Results.{require, value_or}
use Rattle.csv_rows.specs.declared.columns.Column.TheVariants.{TripId, StopId, StopSequence, ArrivalTime, DepartureTime, PickupType, DropOffType}
use Rattle.csv_rows.specs.declared.feed_tables.{Table.TheVariants.StopTimes, FeedFault.{FeedFault, TheVariants.{BadField, UnknownKey, DuplicateKey}}}
use Rattle.csv_rows.specs.{declared.feed_tables.FeedFault.TheVariants.{BackwardTime, TooManyRows}, Columns.name_of, Lists.{first_below, any_below, list_below}}
use Rattle.csv_rows.specs.{Keys.{has_twin, just_precedes}, Ids.{name_in, text_in}, Tables.{field_of, header, row_count, number_in}, RowFaults.lack}
use Rattle.stop_times.specs.declared.{named.Named.Named, rows.{KnownTrip.KnownTrip, StopRow.StopRow, TimedRow.TimedRow, TimeColumns.TimeColumns}}

-- what the fields of a row name: the ids of the trips and of the stops, and the place of each stop
pub record TripsAndStops : Type 0 where
  pub trips : List (List ℕ)
  pub stops : List (List ℕ)
  pub places : List ℕ

abbrev pub named_by : (trips stops : List (List ℕ)) (places : List ℕ) → TripsAndStops
named_by trips stops places = record { trips = trips; stops = stops; places = places }

abbrev pub named_of : Named → TripsAndStops
named_of n = named_by n.trips n.stops n.places.now

-- whether one may board or alight: 1 forbids it
abbrev pub allows_in : List ℕ → Option Bool
allows_in text =
    if length text == 0 || (bytes_eq text (codes "0") || (bytes_eq text (codes "2") || bytes_eq text (codes "3"))) then Some true
    else if bytes_eq text (codes "1") then Some false
    else None

-- a time of the service day, or none where the field is empty
abbrev pub time_in : List ℕ → Option (Option ℕ)
time_in text = if length text == 0 then Some None else option_map Some (time_at text)

-- the number of a stop, or none where the text is empty
abbrev pub stop_number_in : List (List ℕ) → List ℕ → Option (Option ℕ)
stop_number_in stops text = if length text == 0 then Some None else option_map Some (number_in text stops)

-- a row with one time has it for both
abbrev pub times_of : Option ℕ → Option ℕ → Option (ℕ × ℕ)
times_of None None = None
times_of None (Some departure) = Some (departure, departure)
times_of (Some arrival) None = Some (arrival, arrival)
times_of (Some arrival) (Some departure) = Some (arrival, departure)

-- a kept row has a stop and a time
abbrev pub visit_of : List ℕ → Option ℕ → Option (ℕ × ℕ) → Bool → Bool → Option StopRow
visit_of places None times board exit = None
visit_of places (Some stop) None board exit = None
visit_of places (Some stop) (Some times) board exit =
    Some (record { stop = stop; place = record { 0 = slice_index places stop }; arrival = times.0; departure = times.1; can_board = board; can_exit = exit })

-- this field names the trip of this number
abbrev pub IsTripOf : (trips : List (List ℕ)) (id : List ℕ) → ℕ → Type 0
IsTripOf trips id trip = (name_in id ≡ Some id) × (number_in id trips ≡ Some trip)

-- the trip that is known is one of these, and this is its id
abbrev pub IsKnownIn : (trips : List (List ℕ)) → KnownTrip → Type 0
IsKnownIn trips known = IfSome known.trip (λ trip. IsTripOf trips known.id.items trip)

-- what is read from there on with the number of the trip that this field names, or its fault
abbrev pub row_from_trip : (trips : List (List ℕ)) (line : ℕ) (id : List ℕ) → (ℕ → Result TimedRow FeedFault) → Result TimedRow FeedFault
row_from_trip trips line id rest = require (name_in id) (BadField StopTimes line TripId) (λ id'. require (number_in id' trips) (UnknownKey StopTimes line TripId) rest)

-- this field names the stop of this number, or is empty and names none
abbrev pub IsStopOf : (stops : List (List ℕ)) (id : List ℕ) → Option ℕ → Type 0
IsStopOf stops id stop = (text_in id ≡ Some id) × (stop_number_in stops id ≡ Some stop)

-- what is read from there on with the number of the stop that this field names, or its fault
abbrev pub row_from_stop : (stops : List (List ℕ)) (line : ℕ) (id : List ℕ) → (Option ℕ → Result TimedRow FeedFault) → Result TimedRow FeedFault
row_from_stop stops line id rest = require (text_in id) (BadField StopTimes line StopId) (λ id'. require (stop_number_in stops id') (UnknownKey StopTimes line StopId) rest)

-- the row of these fields, or the first that is not of its form or names nothing
abbrev pub timed_from : TripsAndStops → (line : ℕ) (trip stop sequence arrival departure pickup drop_off : List ℕ) → Result TimedRow FeedFault
timed_from named line trip stop sequence arrival departure pickup drop_off =
    row_from_trip named.trips line trip (λ trip_number.
    row_from_stop named.stops line stop (λ stop_number.
    require (whole_of 999999999 sequence) (BadField StopTimes line StopSequence) (λ sequence'.
    require (time_in arrival) (BadField StopTimes line ArrivalTime) (λ arrival'.
    require (time_in departure) (BadField StopTimes line DepartureTime) (λ departure'.
    require (allows_in pickup) (BadField StopTimes line PickupType) (λ board.
    require (allows_in drop_off) (BadField StopTimes line DropOffType) (λ exit.
    Ok (record { trip = trip_number; sequence = sequence'; visit = visit_of named.places stop_number (times_of arrival' departure') board exit }))))))))

-- the indexes of the columns of a header
abbrev pub columns_of : List (List ℕ) → TimeColumns
columns_of names = record {
  trip = number_in (name_of TripId) names;
  stop = number_in (name_of StopId) names;
  sequence = number_in (name_of StopSequence) names;
  arrival = number_in (name_of ArrivalTime) names;
  departure = number_in (name_of DepartureTime) names;
  pickup = number_in (name_of PickupType) names;
  drop_off = number_in (name_of DropOffType) names;
}

-- and those of a table
abbrev pub time_columns : List (List (List ℕ)) → TimeColumns
time_columns t = columns_of (header t)

-- the row in a line with these fields
abbrev pub timed_of : TripsAndStops → (line : ℕ) → TimeColumns → List (List ℕ) → Result TimedRow FeedFault
timed_of named line c fields =
    timed_from named line (field_of fields c.trip) (field_of fields c.stop) (field_of fields c.sequence) (field_of fields c.arrival)
    (field_of fields c.departure) (field_of fields c.pickup) (field_of fields c.drop_off)

-- row i
abbrev pub timed_in : TripsAndStops → List (List (List ℕ)) → TimeColumns → ℕ → Result TimedRow FeedFault
timed_in named t c i = timed_of named (i + 2) c (slice_index_or t (i + 1) [])

unfoldable pub timed_at : TripsAndStops → List (List (List ℕ)) → ℕ → Result TimedRow FeedFault
timed_at named t i = timed_in named t (time_columns t) i

-- the first fault of row i by itself
abbrev pub bad_time : TripsAndStops → List (List (List ℕ)) → ℕ → Option FeedFault
bad_time named t i = result_err (timed_at named t i)

abbrev pub no_row : TimedRow
no_row = record { trip = 0; sequence = 0; visit = None }

-- this fault, but where there are more than this many rows, that they are this many comes first
abbrev pub counted_fault : (most count : ℕ) → Option FeedFault → Option FeedFault
counted_fault most count fault = if nat_lt most count then Some (TooManyRows StopTimes count) else fault

-- the rows, where they have no fault by themselves
abbrev pub timed_rows : TripsAndStops → List (List (List ℕ)) → List TimedRow
timed_rows named t = list_below (λ i. value_or no_row (timed_at named t i)) (row_count t)

abbrev pub row_at : List TimedRow → ℕ → TimedRow
row_at rows i = slice_index_or rows i no_row

abbrev pub trip_of : List TimedRow → ℕ → ℕ
trip_of rows i = (row_at rows i).trip

abbrev pub sequence_of : List TimedRow → ℕ → ℕ
sequence_of rows i = (row_at rows i).sequence

-- an earlier row has the trip and the sequence of row i
unfoldable pub repeated_time : List TimedRow → ℕ → Option FeedFault
repeated_time rows i = if has_twin (trip_of rows) (sequence_of rows) i then Some (DuplicateKey StopTimes (i + 2)) else None

-- whether row i is kept, and its times
abbrev pub is_kept : List TimedRow → ℕ → Bool
is_kept rows i = is_some (row_at rows i).visit

abbrev pub times_in : Option StopRow → ℕ × ℕ
times_in None = (0, 0)
times_in (Some visit) = (visit.arrival, visit.departure)

abbrev pub stop_arrival : List TimedRow → ℕ → ℕ
stop_arrival rows i = (times_in (row_at rows i).visit).0

abbrev pub departure_of : List TimedRow → ℕ → ℕ
departure_of rows i = (times_in (row_at rows i).visit).1

-- row j is the kept row just before the kept row i in its trip
abbrev pub just_before : List TimedRow → ℕ → ℕ → Bool
just_before rows j i = just_precedes (is_kept rows) (trip_of rows) (sequence_of rows) (length rows) j i

-- a kept row departs before it arrives, or arrives before the kept row before it in its trip departs
abbrev pub goes_back : List TimedRow → ℕ → Bool
goes_back rows i =
    is_kept rows i && (nat_lt (departure_of rows i) (stop_arrival rows i)
    || any_below (λ j. just_before rows j i && nat_lt (stop_arrival rows i) (departure_of rows j)) (length rows))

unfoldable pub backward_time : List TimedRow → ℕ → Option FeedFault
backward_time rows i = if goes_back rows i then Some (BackwardTime (i + 2)) else None

-- the first required column that is not in the header
abbrev pub missing_time_column : TimeColumns → Option FeedFault
missing_time_column c =
    option_or (lack StopTimes TripId c.trip) (option_or (lack StopTimes StopId c.stop) (option_or (lack StopTimes StopSequence c.sequence)
    (option_or (lack StopTimes ArrivalTime c.arrival) (lack StopTimes DepartureTime c.departure))))

-- the first fault of the rows beside each other
abbrev pub order_fault : List TimedRow → Option FeedFault
order_fault rows = option_or (first_below (repeated_time rows) (length rows)) (first_below (backward_time rows) (length rows))

-- the first fault of the stop times
unfoldable pub stop_times_fault : TripsAndStops → List (List (List ℕ)) → Option FeedFault
stop_times_fault named t =
    option_or (missing_time_column (time_columns t)) (option_or (first_below (bad_time named t) (row_count t)) (order_fault (timed_rows named t)))
