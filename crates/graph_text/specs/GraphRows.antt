-- Which texts are graphs by place. `Reading` has how the graph is found in the rows, and the first fault of a text that is none.
use Rattle.std.specs.Prelude.{◌≡◌, ℕ, ◌≤◌, List, [], ◌∷◌, ◌++◌, length, Bool, true, ◌==◌, ◌&&◌, if◌then◌else◌, codes, Option, Some, None, IsTrue}
use Rattle.std.specs.Str.{bytes_eq}
use Rattle.clock_text.specs.Times.{moment_at, nanos_at}
use Rattle.csv_rows.specs.Tables.{table_of}
use Rattle.plan_model.specs.{declared.model.Leg.Leg, Network.{NetworkModel, run_of, step_of, from_of, to_of, dep_of, arr_of, change_of}, NameLists.NameLists}
use Rattle.plan_graph.specs.{declared.{GraphRow.GraphRow, PlaceTable.PlaceTable, PlanGraph.PlanGraph}, Tidy.IsFit}
use Rattle.printed_rows.specs.Fields.{field, is_kind, whole_at, number_of}
use Rattle.graph_text.specs.{declared.{Head.Head, version.Version.{Version, TheVariants.{First, Second}}}, Versions.{width_of, number_of_version}}

-- whether the field of the entry place is empty, where the version has one
abbrev pub has_no_entry : Version → List (List ℕ) → Bool
has_no_entry First r = true
has_no_entry Second r = length (field r 8) == 0

-- the place where a row has its leg begin: in the first version its own place, and in the second the one that the ninth field names
abbrev pub entry_in : Version → NameLists → ℕ → List (List ℕ) → Option ℕ
entry_in First names here r = Some here
entry_in Second names here r = number_of names.places (field r 8)

-- whether the fields after the numbers of a place row are empty, up to the eighth
abbrev pub is_blank : List (List ℕ) → Bool
is_blank r = (length (field r 4) == 0) && ((length (field r 5) == 0) && ((length (field r 6) == 0) && (length (field r 7) == 0)))

-- whether it is a place row, of which the fields after the numbers are empty
abbrev pub is_place : Version → List (List ℕ) → Bool
is_place version r = is_kind (codes "place") (width_of version) r && (is_blank r && has_no_entry version r)

-- the version that the first row gives
abbrev pub version_in : List (List ℕ) → Option Version
version_in r =
    if bytes_eq (field r 1) (number_of_version First)
    then Some First
    else (if bytes_eq (field r 1) (number_of_version Second) then Some Second else None)

-- whether it is the first row of a graph
abbrev pub is_head : Version → List (List ℕ) → Bool
is_head version r = is_kind (codes "graph") (width_of version) r && has_no_entry version r

-- a row of a leg, of a kind and by a moment: its fields are those of the leg, which begins at the row's own place where the version has no field for that
pub record IsLegRow (network : NetworkModel) (names : NameLists) (version : Version) (kind : List ℕ) (place moment : ℕ) (leg : Leg) (r : List (List ℕ)) : Type 0 where
  pub is_of_kind : IsTrue (is_kind kind (width_of version) r)
  pub by : moment_at (field r 1) ≡ Some moment
  pub run : number_of names.runs (field r 2) ≡ Some (run_of network leg.enter.0)
  pub enter : whole_at (field r 3) ≡ Some (step_of network leg.enter.0)
  pub departure : moment_at (field r 4) ≡ Some (dep_of network leg.enter.0)
  pub exit : whole_at (field r 5) ≡ Some (step_of network leg.exit.0)
  pub to : number_of names.places (field r 6) ≡ Some (to_of network leg.exit.0)
  pub arrival : moment_at (field r 7) ≡ Some (arr_of network leg.exit.0)
  pub from : entry_in version names place r ≡ Some (from_of network leg.enter.0)

-- the row of a place: its change seconds, and how many rows it has
pub record IsPlaceRow (network : NetworkModel) (names : NameLists) (version : Version) (place many : ℕ) (r : List (List ℕ)) : Type 0 where
  pub is_of_kind : IsTrue (is_place version r)
  pub name : number_of names.places (field r 1) ≡ Some place
  pub change : whole_at (field r 2) ≡ Some (change_of network place)
  pub rows : whole_at (field r 3) ≡ Some many

-- the first row: the question and the bounds
pub record IsHeadRow (names : NameLists) (version : Version) (head : Head) (r : List (List ℕ)) : Type 0 where
  pub is_of_kind : IsTrue (is_head version r)
  pub number : version_in r ≡ Some version
  pub source : number_of names.places (field r 2) ≡ Some head.query.source.0
  pub target : number_of names.places (field r 3) ≡ Some head.query.target.0
  pub start : moment_at (field r 4) ≡ Some head.query.start.0
  pub deadline : moment_at (field r 5) ≡ Some head.query.deadline.0
  pub lo : nanos_at (field r 6) ≡ Some head.bounds.lo
  pub hi : nanos_at (field r 7) ≡ Some head.bounds.hi

-- a row for each row of the table of a place
abbrev pub AreLegRows : NetworkModel → NameLists → Version → ℕ → List GraphRow → List (List (List ℕ)) → Type 0
AreLegRows network names version place [] [] = Unit {0}
AreLegRows network names version place [] (r ∷ rs) = ⊥
AreLegRows network names version place (row ∷ rows) [] = ⊥
AreLegRows network names version place (row ∷ rows) (r ∷ rs) = IsLegRow network names version (codes "leg") place row.by.0 row.leg r × AreLegRows network names version place rows rs

-- for each table the row of its place, and then its own rows
abbrev pub AreTableRows : NetworkModel → NameLists → Version → List PlaceTable → List (List (List ℕ)) → Type 0
AreTableRows network names version [] [] = Unit {0}
AreTableRows network names version [] (r ∷ rs) = ⊥
AreTableRows network names version (table ∷ tables) [] = ⊥
AreTableRows network names version (table ∷ tables) (r ∷ rs) =
    IsPlaceRow network names version table.place.0 (length table.rows) r
    × ((own : List (List (List ℕ))) × (rest : List (List (List ℕ))) × (rs ≡ own ++ rest)
    × AreLegRows network names version table.place.0 table.rows own × AreTableRows network names version tables rest)

-- the row of the start leg, and those of the tables; none where there is no such leg
abbrev pub AreGraphRows : NetworkModel → NameLists → Version → ℕ → Option Leg → List PlaceTable → List (List (List ℕ)) → Type 0
AreGraphRows network names version source None tables rs = rs ≡ []
AreGraphRows network names version source (Some leg) tables [] = ⊥
AreGraphRows network names version source (Some leg) tables (r ∷ rs) =
    IsLegRow network names version (codes "start") source (dep_of network leg.enter.0) leg r × AreTableRows network names version tables rs

-- the rows of the text are those of this head and this graph, which fits the question; the start is not after the deadline, and the bounds are in order
pub record IsTextOf (network : NetworkModel) (names : NameLists) (head : Head) (graph : PlanGraph) (text : List ℕ) : Type 0 where
  pub version : Version
  pub first : List (List ℕ)
  pub others : List (List (List ℕ))
  pub table : table_of text ≡ first ∷ others
  pub head_row : IsHeadRow names version head first
  pub are_rows : AreGraphRows network names version head.query.source.0 graph.start graph.tables others
  pub fit : IsFit network head.query graph
  pub in_time : head.query.start.0 ≤ head.query.deadline.0
  pub bounds : head.bounds.lo ≤ head.bounds.hi
