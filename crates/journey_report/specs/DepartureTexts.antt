-- The printed texts of departures, of the latest moment at which one can leave, and of the places from which one can reach a target.
use Rattle.std.specs.Prelude.{ℕ, ◌<◌, ◌≤◌, List, [], ◌∷◌, ◌++◌, length, codes, decimal}
use Rattle.clock_text.specs.Civil.{moment_text, nanos_text}
use Rattle.plan_model.specs.{declared.model.{Moment.Moment, Query.Query}, Network.{NetworkModel, run_of, step_of}, NameLists.NameLists}
use Rattle.departure_table.specs.declared.{DepartureRow.DepartureRow, reach_rows.ReachRow.ReachRow}
use Rattle.journey_model.specs.Sites.{last_printable}
use Rattle.printed_rows.specs.Records.{row_of_fields, place_name, run_name}

-- the first row: the version of the text, the source, the target, the first moment and the last, the deadline, and how many rows follow
unfoldable pub departures_head : List ℕ → List ℕ → Query → (last count : ℕ) → List ℕ
departures_head source target query last count =
    row_of_fields
    (codes "departures" ∷ codes "1" ∷ source ∷ target ∷ moment_text query.start.0 ∷ moment_text last ∷ moment_text query.deadline.0 ∷ decimal count ∷ [])

-- the row of a departure: its moment, the run and the entry step of its leg, and the two bounds
unfoldable pub departure_text : NetworkModel → NameLists → DepartureRow → List ℕ
departure_text network names r =
    row_of_fields
    (codes "row"
    ∷ moment_text r.by.0
    ∷ run_name names (run_of network r.leg.enter.0)
    ∷ decimal (step_of network r.leg.enter.0)
    ∷ nanos_text r.bounds.lo
    ∷ nanos_text r.bounds.hi
    ∷ [])

abbrev pub rows_text : NetworkModel → NameLists → List DepartureRow → List ℕ
rows_text network names [] = []
rows_text network names (r ∷ rows) = departure_text network names r ++ rows_text network names rows

-- the first row, and then a row for each departure
abbrev pub departures_text : NetworkModel → NameLists → Query → (last : ℕ) → List DepartureRow → List ℕ
departures_text network names query last rows =
    departures_head (place_name names query.source.0) (place_name names query.target.0) query last (length rows) ++ rows_text network names rows

-- one row: the source, the target, the first moment, the deadline and the latest moment
unfoldable pub latest_text : List ℕ → List ℕ → Query → Moment → List ℕ
latest_text source target query moment =
    row_of_fields (codes "latest" ∷ source ∷ target ∷ moment_text query.start.0 ∷ moment_text query.deadline.0 ∷ moment_text moment.0 ∷ [])

-- the row's place has a name, and its moment a text
pub record IsPrintable (names : NameLists) (row : ReachRow) : Type 0 where
  pub named : row.place.0 < length names.places
  pub latest : row.latest.0 ≤ last_printable

-- the first row: the version of the text, the target, the first moment, the deadline, and how many rows follow
unfoldable pub reach_head : NameLists → Query → (count : ℕ) → List ℕ
reach_head names query count =
    row_of_fields
    (codes "reach" ∷ codes "1" ∷ place_name names query.target.0 ∷ moment_text query.start.0 ∷ moment_text query.deadline.0 ∷ decimal count ∷ [])

-- the row of a place: its name, the latest moment at which one can set out there, and the two bounds
unfoldable pub from_text : NameLists → ReachRow → List ℕ
from_text names r =
    row_of_fields
    (codes "from" ∷ place_name names r.place.0 ∷ moment_text r.latest.0 ∷ nanos_text r.bounds.lo ∷ nanos_text r.bounds.hi ∷ [])

abbrev pub froms_text : NameLists → List ReachRow → List ℕ
froms_text names [] = []
froms_text names (r ∷ rows) = from_text names r ++ froms_text names rows

-- the first row, and then a row for each place
abbrev pub reach_text : NameLists → Query → List ReachRow → List ℕ
reach_text names query rows = reach_head names query (length rows) ++ froms_text names rows
