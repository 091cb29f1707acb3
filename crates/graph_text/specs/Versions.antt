-- The two versions of a graph's text.
use Rattle.std.specs.Prelude.{ℕ, Bool, true, List, [], ◌∷◌, ◌==◌, ◌&&◌, if◌then◌else◌, codes}
use Rattle.plan_model.specs.{Network.{NetworkModel, from_of}, Unfold.end_of}
use Rattle.plan_graph.specs.declared.{GraphRow.GraphRow, Ride.Ride, PlaceTable.PlaceTable}
use Rattle.graph_text.specs.declared.version.Version.{Version, TheVariants.{First, Second}}

-- its number, as the first row gives it
abbrev pub number_of_version : Version → List ℕ
number_of_version First = codes "1"
number_of_version Second = codes "2"

-- how many fields each row has
abbrev pub width_of : Version → ℕ
width_of First = 8
width_of Second = 9

-- the ninth field, which only the second version has
abbrev pub ninth : Version → List ℕ → List (List ℕ)
ninth First field = []
ninth Second field = field ∷ []

-- whether each leg of a place's rows leaves that place
abbrev pub rows_leave : NetworkModel → ℕ → List GraphRow → Bool
rows_leave network place [] = true
rows_leave network place (row ∷ rows) = (from_of network row.leg.enter.0 == place) && rows_leave network place rows

-- of each place
abbrev pub tables_leave : NetworkModel → List PlaceTable → Bool
tables_leave network [] = true
tables_leave network (table ∷ tables) = rows_leave network table.place.0 table.rows && tables_leave network tables

-- and whether the legs after each ride leave the place where it ends
abbrev pub rides_leave : NetworkModel → List Ride → Bool
rides_leave network [] = true
rides_leave network (r ∷ rides) = rows_leave network (end_of network r.leg) r.after && rides_leave network rides

-- the version: the first where each leg leaves its row's place, and the second where one does not
abbrev pub version_by : Bool → Version
version_by leave = if leave then First else Second
