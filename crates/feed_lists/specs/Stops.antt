-- The stops of a feed: their ids, the place of each, and the forms of their fields (GTFS Schedule reference).
use Rattle.std.specs.Prelude.{ℕ, ◌==◌, Bool, true, false, ◌||◌, List, [], length, Option, Some, None, if◌then◌else◌, codes, ◌+◌, ◌∷◌, Result, Ok, is_some}
use Rattle.std.specs.{Prelude.unwrap_or, Str.bytes_eq, Option.option_or, Result.result_err}
use Rattle.csv_rows.specs.{Ids.{text_in, name_in}, declared.columns.Column.TheVariants.{StopId, LocationType, ParentStation}}
use Rattle.csv_rows.specs.{declared.feed_tables.{Table.TheVariants.Stops, FeedFault.{FeedFault, TheVariants.{BadField, UnknownKey}}}, Lists.first_below}
use Rattle.csv_rows.specs.{Lists.list_below, Tables.{row_count, number_in, index_of, field_at, field}, RowFaults.{first_missing, repeated_id}}
use Rattle.plan_model.specs.Results.{require, value_or}
use Rattle.feed_lists.specs.declared.stops.StopColumns.{StopColumns}

-- whether a location is a stop or a platform; else it is a station, an entrance, a node or a boarding area
abbrev pub is_stop_in : List ℕ → Option Bool
is_stop_in text =
    if length text == 0 || bytes_eq text (codes "0") then Some true
    else if bytes_eq text (codes "1") || (bytes_eq text (codes "2") || (bytes_eq text (codes "3") || bytes_eq text (codes "4"))) then Some false
    else None

-- the parent station, at which only stops and platforms are looked at; an empty text is none
abbrev pub parent_in : Bool → List ℕ → Option (List ℕ)
parent_in true text = text_in text
parent_in false text = Some []

-- a stop by its id and its parent station, which is empty where it has none
pub record Stop : Type 0 where
  pub id : List ℕ
  pub parent : List ℕ

-- the stop of these fields, or the first that is not of its form
abbrev pub stop_from : ℕ → (id kind parent : List ℕ) → Result Stop FeedFault
stop_from line id kind parent =
    require (name_in id) (BadField Stops line StopId) (λ id'.
    require (is_stop_in kind) (BadField Stops line LocationType) (λ is_stop.
    require (parent_in is_stop parent) (BadField Stops line ParentStation) (λ parent'.
    Ok (record { id = id'; parent = parent' }))))

-- the indexes of the columns
abbrev pub stop_columns : List (List (List ℕ)) → StopColumns
stop_columns t = record { id = index_of StopId t; kind = index_of LocationType t; parent = index_of ParentStation t }

-- the stop of row i
abbrev pub stop_in : List (List (List ℕ)) → StopColumns → ℕ → Result Stop FeedFault
stop_in t c i = stop_from (i + 2) (field_at t c.id i) (field_at t c.kind i) (field_at t c.parent i)

unfoldable pub stop_at : List (List (List ℕ)) → ℕ → Result Stop FeedFault
stop_at t i = stop_in t (stop_columns t) i

-- the first field of row i that is not of its form
abbrev pub bad_stop : List (List (List ℕ)) → ℕ → Option FeedFault
bad_stop t i = result_err (stop_at t i)

-- the stop of a row whose fields are of their forms
abbrev pub stop_or_none : Result Stop FeedFault → Stop
stop_or_none s = value_or (record { id = []; parent = [] }) s

-- the parent station of a row
abbrev pub parent_of : List (List (List ℕ)) → ℕ → List ℕ
parent_of t i = (stop_or_none (stop_at t i)).parent

-- the ids and the parents of the stops
abbrev pub stop_ids : List (List (List ℕ)) → List (List ℕ)
stop_ids t = list_below (field t StopId) (row_count t)

abbrev pub stop_parents : List (List (List ℕ)) → List (List ℕ)
stop_parents t = list_below (parent_of t) (row_count t)

-- no stop has the id of this parent
abbrev pub unknown_in : List (List ℕ) → List ℕ → ℕ → Option FeedFault
unknown_in ids parent i =
    if length parent == 0 then None
    else if is_some (number_in parent ids) then None else Some (UnknownKey Stops (i + 2) ParentStation)

abbrev pub unknown_parent : List (List (List ℕ)) → ℕ → Option FeedFault
unknown_parent t i = unknown_in (stop_ids t) (parent_of t i) i

-- the place of a stop is its parent, and itself where it has none; the parent's own parent does not matter
abbrev pub place_from : List (List ℕ) → List ℕ → ℕ → ℕ
place_from ids parent i = if length parent == 0 then i else unwrap_or (number_in parent ids) 0

abbrev pub stop_places : List (List (List ℕ)) → List ℕ
stop_places t = list_below (λ i. place_from (stop_ids t) (parent_of t i) i) (row_count t)

-- the first fault of the stops
unfoldable pub stops_fault : List (List (List ℕ)) → Option FeedFault
stops_fault t =
    option_or (first_missing Stops t (StopId ∷ []))
    (option_or (first_below (bad_stop t) (row_count t))
    (option_or (first_below (repeated_id Stops (field t StopId)) (row_count t))
    (first_below (unknown_parent t) (row_count t))))
