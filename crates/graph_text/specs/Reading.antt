-- How a graph is found in the rows of its text, or the first of the text's faults by line. `GraphRows` has which texts are graphs.
use Rattle.std.specs.Prelude.{◌≡◌, ℕ, ◌+◌, ◌-◌, Bool, false, List, [], ◌∷◌, ◌++◌, length, ◌==◌, ◌&&◌, nat_le, if◌then◌else◌, codes, Option, Some, None, Result}
use Rattle.std.specs.{Prelude.{Ok, Err, ◌⊎◌, ◌<◌, IsSome, IfSome}, Option.{option_map, option_and_then}}
use Rattle.plan_model.specs.{Results.{and_then, require}, declared.model.{Leg.Leg, Moment.Moment, PlaceId.PlaceId}, Network.{NetworkModel, connection, from_of}}
use Rattle.plan_model.specs.{Network.{to_of, dep_of, arr_of, change_of}, NameLists.NameLists, Ways.limit_of}
use Rattle.clock_text.specs.Times.{moment_at, nanos_at}
use Rattle.csv_rows.specs.{Tables.table_of, declared.rows.RowsFault.RowsFault}
use Rattle.plan_graph.specs.declared.{GraphRow.GraphRow, PlaceTable.PlaceTable, PlanGraph.PlanGraph}
use Rattle.printed_rows.specs.Fields.{field, is_kind, whole_at, number_of, is_query, connection_of, rises}
use Rattle.graph_text.specs.declared.{Head.Head, reader.TextFault.{TextFault, TheVariants.{Row, UnknownName, NotRising, NoLeg, OtherQuery, NoMemory}}}
use Rattle.graph_text.specs.declared.reader.{HeadRow.HeadRow, LegRow.LegRow, LegNames.LegNames, PlaceRow.PlaceRow, TableStart.TableStart, Reading.Reading}
use Rattle.graph_text.specs.{declared.version.Version.Version, Versions.width_of, GraphRows.{entry_in, is_place, is_head, version_in}}
use Rattle.csv_rows.specs.declared.rows.RowsFault.TheVariants as rows

-- the numbers of a leg's row, where all are there
abbrev pub leg_numbers : Option ℕ → Option ℕ → Option ℕ → Option ℕ → Option ℕ → Option LegRow
leg_numbers None enter dep exit arr = None
leg_numbers (Some by) None dep exit arr = None
leg_numbers (Some by) (Some enter) None exit arr = None
leg_numbers (Some by) (Some enter) (Some dep) None arr = None
leg_numbers (Some by) (Some enter) (Some dep) (Some exit) None = None
leg_numbers (Some by) (Some enter) (Some dep) (Some exit) (Some arr) =
    Some (record { moment = record { 0 = by }; enter = enter; dep = record { 0 = dep }; exit = exit; arr = record { 0 = arr } })

abbrev pub leg_row_in : Version → List ℕ → List (List ℕ) → Option LegRow
leg_row_in version kind r =
    if is_kind kind (width_of version) r
    then leg_numbers (moment_at (field r 1)) (whole_at (field r 3)) (moment_at (field r 4)) (whole_at (field r 5)) (moment_at (field r 7))
    else None

-- a run, the place where one boards and the place where one leaves
abbrev pub leg_names : ℕ → ℕ → ℕ → LegNames
leg_names run exit entry = record { run = record { 0 = run }; exit = record { 0 = exit }; entry = record { 0 = entry } }

-- those of a row of a place, where each is known
abbrev pub names_in : Version → NameLists → ℕ → List (List ℕ) → Option LegNames
names_in version names here r =
    option_and_then (λ run. option_and_then (λ exit. option_map (λ entry. leg_names run exit entry) (entry_in version names here r))
    (number_of names.places (field r 6))) (number_of names.runs (field r 2))

-- whether connections i and j agree with a leg's row and its names
abbrev pub agrees : NetworkModel → ℕ → ℕ → LegRow → LegNames → Bool
agrees network i j x known =
    nat_le x.enter x.exit && ((connection network i).can_board && ((connection network j).can_exit
    && ((dep_of network i == x.dep.0) && ((from_of network i == known.entry.0) && ((to_of network j == known.exit.0) && (arr_of network j == x.arr.0))))))

abbrev pub leg_between : ℕ → ℕ → Leg
leg_between i j = record { enter = record { 0 = i }; exit = record { 0 = j } }

-- the leg of a row by its run and places, where the network has it
abbrev pub leg_found : NetworkModel → LegRow → LegNames → Option Leg
leg_found network x known =
    option_and_then (λ i. option_and_then (λ j. if agrees network i j x known then Some (leg_between i j) else None)
    (connection_of network known.run.0 x.exit)) (connection_of network known.run.0 x.enter)

-- whether a limit is there and is this moment
abbrev pub equals_limit : Option ℕ → ℕ → Bool
equals_limit None moment = false
equals_limit (Some limit) moment = limit == moment

-- whether a leg leaves the source at the start or later, and the row's moment is its departure
abbrev pub can_start : NetworkModel → ℕ → ℕ → ℕ → Leg → Bool
can_start network source start moment leg = (from_of network leg.enter.0 == source) && ((moment == dep_of network leg.enter.0) && nat_le start (dep_of network leg.enter.0))

-- the start row
abbrev pub start_in : NetworkModel → NameLists → Version → ℕ → ℕ → ℕ → List (List ℕ) → Result Leg TextFault
start_in network names version line source start r =
    require (leg_row_in version (codes "start") r) (Row line) (λ x.
    require (names_in version names source r) (UnknownName line) (λ known.
    require (leg_found network x known) (NoLeg line) (λ leg.
    if can_start network source start x.moment.0 leg then Ok leg else Err (NoLeg line))))

-- whether the moment is the limit of a leg at a place
abbrev pub is_by_limit : NetworkModel → ℕ → ℕ → Leg → Bool
is_by_limit network place moment leg = equals_limit (limit_of network place leg) moment

-- a leg row of a place, after one by an earlier moment
abbrev pub row_in : NetworkModel → NameLists → Version → ℕ → ℕ → Option ℕ → List (List ℕ) → Result GraphRow TextFault
row_in network names version line place last r =
    require (leg_row_in version (codes "leg") r) (Row line) (λ x.
    require (names_in version names place r) (UnknownName line) (λ known.
    if rises last x.moment.0
    then require (leg_found network x known) (NoLeg line) (λ leg.
    if is_by_limit network place x.moment.0 leg then Ok (record { by = x.moment; leg = leg }) else Err (NoLeg line))
    else Err (NotRising line)))

-- the numbers of a place row, where both are there and it has a row
abbrev pub place_numbers : Option ℕ → Option ℕ → Option PlaceRow
place_numbers change count =
    option_and_then (λ change. option_and_then (λ count. if nat_le 1 count then Some (record { change = change; count = count }) else None) count) change

abbrev pub place_row_in : Version → List (List ℕ) → Option PlaceRow
place_row_in version r = if is_place version r then place_numbers (whole_at (field r 2)) (whole_at (field r 3)) else None

-- a place row, after one of an earlier place
abbrev pub table_in : NetworkModel → NameLists → Version → ℕ → Option ℕ → List (List ℕ) → Result TableStart TextFault
table_in network names version line last r =
    require (place_row_in version r) (Row line) (λ x.
    require (number_of names.places (field r 1)) (UnknownName line) (λ place.
    if rises last place
    then (if x.change == change_of network place then Ok (record { place = record { 0 = place }; count = x.count }) else Err (NoLeg line))
    else Err (NotRising line)))

-- the tables so far, with one that begins or has one row more
abbrev pub after_place_row : Reading → Result TableStart TextFault → Result Reading TextFault
after_place_row s (Err e) = Err e
after_place_row s (Ok t) = Ok (record { done = s.done; place = Some t.place; rows = []; by = None; remaining = t.count })

-- the place, where there is one
abbrev pub place_or_first : Option PlaceId → PlaceId
place_or_first None = record { 0 = 0 }
place_or_first (Some place) = place

-- where this place has these rows so far
abbrev pub with_rows : List PlaceTable → PlaceId → List GraphRow → Option Moment → ℕ → Reading
with_rows done place rows by remaining = record { done = done; place = Some place; rows = rows; by = by; remaining = remaining }

abbrev pub after_leg_row : Reading → Result GraphRow TextFault → Result Reading TextFault
after_leg_row s (Err e) = Err e
after_leg_row s (Ok row) =
    if s.remaining == 1
    then Ok (record { done = s.done ++ (record { place = place_or_first s.place; rows = s.rows ++ row ∷ [] }) ∷ []; place = s.place; rows = []; by = None; remaining = 0 })
    else Ok (record { done = s.done; place = s.place; rows = s.rows ++ row ∷ []; by = Some row.by; remaining = s.remaining - 1 })

-- after one record more: a place row where no leg row is to come, and otherwise a leg row
abbrev pub step : NetworkModel → NameLists → Version → ℕ → List (List ℕ) → Reading → Result Reading TextFault
step network names version line r s =
    if s.remaining == 0
    then after_place_row s (table_in network names version line (option_map (λ place. place.0) s.place) r)
    else after_leg_row s (row_in network names version line (place_or_first s.place).0 (option_map (λ moment. moment.0) s.by) r)

-- the tables of the records from a line on
abbrev pub place_tables_from : NetworkModel → NameLists → Version → List (List (List ℕ)) → ℕ → Reading → Result (List PlaceTable) TextFault
place_tables_from network names version [] line s = if s.remaining == 0 then Ok s.done else Err (Row line)
place_tables_from network names version (r ∷ rs) line s = and_then (step network names version line r s) (place_tables_from network names version rs (line + 1))

-- where a leg row is to come there is a place, and a place is one of the network's
pub record IsPlaced (network : NetworkModel) (s : Reading) : Type 0 where
  pub some : (s.remaining ≡ 0) ⊎ IsSome s.place
  pub there : IfSome s.place (λ place. place.0 < length network.change)

abbrev pub no_tables : Reading
no_tables = record { done = []; place = None; rows = []; by = None; remaining = 0 }

-- the graph of a start row and the records after it
abbrev pub started_in : NetworkModel → NameLists → Version → ℕ → ℕ → List (List ℕ) → List (List (List ℕ)) → Result PlanGraph TextFault
started_in network names version source start r rs =
    and_then (start_in network names version 2 source start r) (λ leg. and_then (place_tables_from network names version rs 3 no_tables) (λ tables. Ok (record { start = Some leg; tables = tables })))

-- the graph of the records after the first
abbrev pub graph_after_first : NetworkModel → NameLists → Version → ℕ → ℕ → ℕ → List (List (List ℕ)) → Result PlanGraph TextFault
graph_after_first network names version source target start [] = if source == target then Ok (record { start = None; tables = [] }) else Err (Row 2)
graph_after_first network names version source target start (r ∷ rs) =
    if source == target
    then Err (Row 2)
    else started_in network names version source start r rs

-- whether two moments and two bounds are in order
abbrev pub are_in_order : ℕ → ℕ → ℕ → ℕ → Bool
are_in_order start deadline lo hi = nat_le start deadline && nat_le lo hi

-- the numbers of the first row, where all are there and in order
abbrev pub head_numbers : Option ℕ → Option ℕ → Option ℕ → Option ℕ → Option HeadRow
head_numbers None deadline lo hi = None
head_numbers (Some start) None lo hi = None
head_numbers (Some start) (Some deadline) None hi = None
head_numbers (Some start) (Some deadline) (Some lo) None = None
head_numbers (Some start) (Some deadline) (Some lo) (Some hi) =
    if are_in_order start deadline lo hi then Some (record { start = record { 0 = start }; deadline = record { 0 = deadline }; lo = lo; hi = hi }) else None

abbrev pub head_row_in : Version → List (List ℕ) → Option HeadRow
head_row_in version r =
    if is_head version r
    then head_numbers (moment_at (field r 4)) (moment_at (field r 5)) (nanos_at (field r 6)) (nanos_at (field r 7))
    else None

-- the head of a question and the numbers of a first row
abbrev pub head_of : ℕ → ℕ → ℕ → HeadRow → Head
head_of source target start x = record {
  query = record { source = record { 0 = source }; target = record { 0 = target }; start = record { 0 = start }; deadline = x.deadline };
  bounds = record { lo = x.lo; hi = x.hi };
}

-- the first row
abbrev pub head_in : NameLists → Version → ℕ → ℕ → ℕ → List (List ℕ) → Result Head TextFault
head_in names version source target start r =
    require (head_row_in version r) (Row 1) (λ x.
    require (number_of names.places (field r 2)) (UnknownName 1) (λ from.
    require (number_of names.places (field r 3)) (UnknownName 1) (λ to.
    if is_query from to x.start.0 source target start then Ok (head_of source target start x) else Err (OtherQuery 1))))

-- the head and the graph of a table's records, by the version that the first one gives
abbrev pub graph_of_records : NetworkModel → NameLists → ℕ → ℕ → ℕ → List (List (List ℕ)) → Result (Head × PlanGraph) TextFault
graph_of_records network names source target start [] = Err (Row 1)
graph_of_records network names source target start (r ∷ rs) =
    require (version_in r) (Row 1) (λ version.
    and_then (head_in names version source target start r) (λ head.
    and_then (graph_after_first network names version source target start rs) (λ graph. Ok (head, graph))))

-- the head and the graph of a text, or the first of its faults by line
abbrev pub graph_of : List ℕ → NetworkModel → NameLists → ℕ → ℕ → ℕ → Result (Head × PlanGraph) TextFault
graph_of text network names source target start = graph_of_records network names source target start (table_of text)

-- the text is read as this head and this graph, where the head's question is asked
abbrev pub IsReadAs : NetworkModel → NameLists → Head → PlanGraph → List ℕ → Type 0
IsReadAs network names head graph text = graph_of text network names head.query.source.0 head.query.target.0 head.query.start.0 ≡ Ok (head, graph)

-- the fault of a text that is no table: it has no first row, or there was no memory
abbrev pub fault_of_rows : RowsFault → TextFault
fault_of_rows rows.NoHeader = Row 1
fault_of_rows rows.NoMemory = NoMemory

-- there was no memory, or it is this
abbrev pub IsUnlessNoMemory : {A : Type 0} → Result A TextFault → Result A TextFault → Type 0
IsUnlessNoMemory (Err NoMemory) reported = Unit {0}
IsUnlessNoMemory (Ok a) reported = reported ≡ Ok a
IsUnlessNoMemory (Err e) reported = reported ≡ Err e
