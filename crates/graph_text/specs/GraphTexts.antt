-- The texts of graphs.
use Rattle.std.specs.Prelude.{ℕ, List, [], ◌∷◌, ◌++◌, Option, Some, None, ◌==◌, if◌then◌else◌, length, codes, decimal}
use Rattle.clock_text.specs.Civil.{moment_text, nanos_text}
use Rattle.plan_model.specs.{declared.model.Leg.Leg, Network.{NetworkModel, run_of, step_of, from_of, dep_of, arr_of, to_of, change_of}, NameLists.NameLists}
use Rattle.plan_graph.specs.declared.{GraphRow.GraphRow, Ride.Ride, PlaceTable.PlaceTable, ExpandedGraph.ExpandedGraph, PlanGraph.PlanGraph}
use Rattle.printed_rows.specs.Records.{row_of_fields, place_name, run_name}
use Rattle.graph_text.specs.{declared.{Head.Head, version.Version.Version}, Versions.{number_of_version, ninth, tables_leave, rides_leave, version_by}}

-- the fields of a leg: run, entry step, departure, exit step, exit place, scheduled arrival, and the entry place in the second version
abbrev pub leg_fields : NetworkModel → NameLists → Version → Leg → List (List ℕ)
leg_fields network names version leg =
    run_name names (run_of network leg.enter.0)
    ∷ decimal (step_of network leg.enter.0)
    ∷ moment_text (dep_of network leg.enter.0)
    ∷ decimal (step_of network leg.exit.0)
    ∷ place_name names (to_of network leg.exit.0)
    ∷ moment_text (arr_of network leg.exit.0)
    ∷ ninth version (place_name names (from_of network leg.enter.0))

-- a row of a leg: its kind, a field of its own, and the leg's fields
abbrev pub leg_row : NetworkModel → NameLists → Version → List ℕ → List ℕ → Leg → List ℕ
leg_row network names version kind second leg = row_of_fields (kind ∷ second ∷ leg_fields network names version leg)

-- the first row: kind, version, source, target, start, deadline, lower and upper bound
abbrev pub head_row : NameLists → Version → List ℕ → Head → List ℕ
head_row names version kind head =
    row_of_fields
    (kind
    ∷ number_of_version version
    ∷ place_name names head.query.source.0
    ∷ place_name names head.query.target.0
    ∷ moment_text head.query.start.0
    ∷ moment_text head.query.deadline.0
    ∷ nanos_text head.bounds.lo
    ∷ nanos_text head.bounds.hi
    ∷ ninth version [])

-- the row of the start leg, where there is one
abbrev pub start_leg_text : NetworkModel → NameLists → Version → Option Leg → List ℕ
start_leg_text network names version None = []
start_leg_text network names version (Some leg) = leg_row network names version (codes "start") (moment_text (dep_of network leg.enter.0)) leg

-- a row for each row of a table, by its moment
abbrev pub rows_text : NetworkModel → NameLists → Version → List ℕ → List GraphRow → List ℕ
rows_text network names version kind [] = []
rows_text network names version kind (row ∷ rows) = leg_row network names version kind (moment_text row.by.0) row.leg ++ rows_text network names version kind rows

-- the row of a ride, with the number of its rows, and those rows
abbrev pub ride_text : NetworkModel → NameLists → Version → Ride → List ℕ
ride_text network names version r = leg_row network names version (codes "ride") (decimal (length r.after)) r.leg ++ rows_text network names version (codes "next") r.after

abbrev pub rides_text : NetworkModel → NameLists → Version → List Ride → List ℕ
rides_text network names version [] = []
rides_text network names version (r ∷ rides) = ride_text network names version r ++ rides_text network names version rides

-- the text of a graph by ride, of a version; where source and target are one place there is only the first row
abbrev pub expanded_text_in : NetworkModel → NameLists → Version → Head → ExpandedGraph → List ℕ
expanded_text_in network names version head graph =
    head_row names version (codes "expanded") head
    ++ (if head.query.source.0 == head.query.target.0 then [] else start_leg_text network names version graph.start ++ rides_text network names version graph.rides)

-- the text of a graph by ride
abbrev pub expanded_text : NetworkModel → NameLists → Head → ExpandedGraph → List ℕ
expanded_text network names head graph = expanded_text_in network names (version_by (rides_leave network graph.rides)) head graph

-- the row of a place, with its change seconds and how many rows it has
abbrev pub place_row : NetworkModel → NameLists → Version → ℕ → ℕ → List ℕ
place_row network names version place count =
    row_of_fields
    (codes "place"
    ∷ place_name names place
    ∷ decimal (change_of network place)
    ∷ decimal count
    ∷ [] ∷ [] ∷ [] ∷ [] ∷ ninth version [])

-- the row of a place, and its rows
abbrev pub table_text : NetworkModel → NameLists → Version → PlaceTable → List ℕ
table_text network names version table = place_row network names version table.place.0 (length table.rows) ++ rows_text network names version (codes "leg") table.rows

abbrev pub tables_text : NetworkModel → NameLists → Version → List PlaceTable → List ℕ
tables_text network names version [] = []
tables_text network names version (table ∷ tables) = table_text network names version table ++ tables_text network names version tables

-- the text of a graph by place, of a version; where source and target are one place there is only the first row
abbrev pub plan_text_in : NetworkModel → NameLists → Version → Head → PlanGraph → List ℕ
plan_text_in network names version head graph =
    head_row names version (codes "graph") head
    ++ (if head.query.source.0 == head.query.target.0 then [] else start_leg_text network names version graph.start ++ tables_text network names version graph.tables)

-- the text of a graph by place
abbrev pub plan_text : NetworkModel → NameLists → Head → PlanGraph → List ℕ
plan_text network names head graph = plan_text_in network names (version_by (tables_leave network graph.tables)) head graph
