-- What was printed is read back.
use Rattle.graph_text.proofs.Common.{◌≡◌, ℕ, ◌<◌, ◌≤◌, ◌^◌, List, [], ◌∷◌, ◌++◌, length, map, Option, Some, None, Bool, true, false, All, arith, refl, ap, ◌∙◌, append_assoc, ◌==◌, slice_index_or}
use Rattle.graph_text.proofs.Common.{decimal, codes, eqb, eqb-true, eq-eqb, ne_eqb, All-head, All-tail, All-map, All-contains, moment_text, nanos_text, last_printable, table_of, Leg, Query}
use Rattle.graph_text.proofs.Common.{NetworkModel, NameLists, NamesFit, AreNames, IsValid, count, change_of, run_of, step_of, from_of, to_of, dep_of, arr_of, GraphRow, PlaceTable, PlanGraph}
use Rattle.graph_text.proofs.Common.{IsLegOf, IsFit, IsFitRow, IsFitTable, Head, Version, First, Second, number_of_version, ninth, rows_leave, tables_leave, version_by, IsPrintableQuery}
use Rattle.graph_text.proofs.Common.{leg_fields, rows_text, tables_text, plan_text_in, plan_text, place_name, run_name, row_of_fields, text_of_records, IsReadAs, is_head, version_in, IsLegRow}
use Rattle.graph_text.proofs.{Common.{IsPlaceRow, IsHeadRow, AreLegRows, AreTableRows, AreGraphRows, IsTextOf, most_connections}, Laws.{limit_soon, place_there}, Accepted.text_read}
use Rattle.std.specs.Cmp.Lexicographic.{bytes_decides}
use Rattle.std.proofs.lemmas.{List.{get_or-map, length-map, Recursion.and_at}, Map.{Keys.IsDistinct-from_apart, Views.Contains-from_any, Steps.length-le_from_distinct_below}}
use Rattle.clock_text.proofs.{Walk.text_reports, NanosLemmas.nanos_report}
use Rattle.csv_rows.specs.Spaces.{trimmed_text}
use Rattle.printed_rows.proofs.{Names.{place_kept, run_kept, place_back, run_back, step_kept, step_back}, Plain.{moment_kept, nanos_kept, decimal_kept, whole_back}, Printed.{IsKept, AreKept}}
use Rattle.printed_rows.proofs.Printed.{kept-append, table_back}

-- what holds of either version holds of each
by_version : (P : Version → Type 0) → P First → P Second → (version : Version) → P version
by_version P first second version = grind arith

fields_kept : (version : Version) (a b c d e f g h last : List ℕ) → trimmed_text a ≡ a → trimmed_text b ≡ b → trimmed_text c ≡ c → trimmed_text d ≡ d
    → trimmed_text e ≡ e
    → trimmed_text f ≡ f → trimmed_text g ≡ g → trimmed_text h ≡ h → trimmed_text last ≡ last
    → IsKept (a ∷ b ∷ c ∷ d ∷ e ∷ f ∷ g ∷ h ∷ ninth version last)
fields_kept version a b c d e f g h last one two three four five six seven eight nine = grind arith

rows-append : (rows more : List (List (List ℕ))) → text_of_records (rows ++ more) ≡ text_of_records rows ++ text_of_records more
rows-append [] more = refl
rows-append (row ∷ rows) more = grind (arith, append_assoc, rows-append rows more)

-- the records of a leg, of a table's rows, of a place, and of all tables
abbrev leg_record : NetworkModel → NameLists → Version → List ℕ → List ℕ → Leg → List (List ℕ)
leg_record n names version kind second leg = kind ∷ second ∷ leg_fields n names version leg

abbrev leg_records : NetworkModel → NameLists → Version → List GraphRow → List (List (List ℕ))
leg_records n names version [] = []
leg_records n names version (row ∷ rows) = leg_record n names version (codes "leg") (moment_text row.by.0) row.leg ∷ leg_records n names version rows

abbrev place_record : NetworkModel → NameLists → Version → PlaceTable → List (List ℕ)
place_record n names version t = codes "place" ∷ place_name names t.place.0 ∷ decimal (change_of n t.place.0) ∷ decimal (length t.rows) ∷ [] ∷ [] ∷ [] ∷ [] ∷ ninth version []

abbrev table_records : NetworkModel → NameLists → Version → List PlaceTable → List (List (List ℕ))
table_records n names version [] = []
table_records n names version (t ∷ tables) = place_record n names version t ∷ (leg_records n names version t.rows ++ table_records n names version tables)

-- those after the first: where source and target are one place there is none
abbrev graph_records : NetworkModel → NameLists → Version → Option Leg → List PlaceTable → List (List (List ℕ))
graph_records n names version None tables = []
graph_records n names version (Some leg) tables = leg_record n names version (codes "start") (moment_text (dep_of n leg.enter.0)) leg ∷ table_records n names version tables

abbrev head_record : NameLists → Version → Head → List (List ℕ)
head_record names version head =
    codes "graph" ∷ number_of_version version ∷ place_name names head.query.source.0 ∷ place_name names head.query.target.0
    ∷ moment_text head.query.start.0 ∷ moment_text head.query.deadline.0 ∷ nanos_text head.bounds.lo ∷ nanos_text head.bounds.hi ∷ ninth version []

-- their text is what is printed
legs_printed : (n : NetworkModel) (names : NameLists) (version : Version) (rows : List GraphRow) → rows_text n names version (codes "leg") rows ≡ text_of_records (leg_records n names version rows)
legs_printed n names version [] = refl
legs_printed n names version (row ∷ rows) = grind (arith, leg_record, codes, legs_printed n names version rows)

tables_printed : (n : NetworkModel) (names : NameLists) (version : Version) (tables : List PlaceTable) → tables_text n names version tables ≡ text_of_records (table_records n names version tables)
tables_printed n names version [] = refl
tables_printed n names version (t ∷ tables) = grind (arith, place_record, append_assoc, codes, legs_printed, leg_records, rows-append, table_records, tables_printed n names version tables)

-- in a text of the first version the leg leaves its row's place
abbrev IsReported : NetworkModel → Version → ℕ → Leg → Type 0
IsReported n First place leg = from_of n leg.enter.0 ≡ place
IsReported n Second place leg = Unit {0}

-- a row that fits, and can be given in a text of the version
abbrev IsReportedRow : NetworkModel → Version → ℕ → GraphRow → Type 0
IsReportedRow n version place row = IsFitRow n place row × IsReported n version place row.leg

-- and such a table
abbrev IsReportedTable : NetworkModel → Version → PlaceTable → Type 0
IsReportedTable n version t = IsFitTable n t × All (IsReportedRow n version t.place.0) t.rows

module _ (n : NetworkModel) (names : NameLists) (version : Version) (valid : IsValid n) (fit : NamesFit names n) (own : AreNames names) where
  -- a leg's row is kept, and gives the leg
  leg_kept : (kind second : List ℕ) (leg : Leg) → IsLegOf n leg → trimmed_text kind ≡ kind → trimmed_text second ≡ second → IsKept (leg_record n names version kind second leg)
  leg_kept kind second leg is_leg one two =
      fields_kept version kind second (run_name names (run_of n leg.enter.0)) (decimal (step_of n leg.enter.0)) (moment_text (dep_of n leg.enter.0)) (decimal (step_of n leg.exit.0))
      (place_name names (to_of n leg.exit.0)) (moment_text (arr_of n leg.exit.0)) (place_name names (from_of n leg.enter.0))
      one two
      (run_kept n names fit leg.enter.0 is_leg.enter)
      (step_kept n valid leg.enter.0 is_leg.enter)
      (moment_kept (dep_of n leg.enter.0))
      (step_kept n valid leg.exit.0 is_leg.exit)
      (place_kept n names fit (to_of n leg.exit.0) (valid.connections leg.exit.0 is_leg.exit).to_in)
      (moment_kept (arr_of n leg.exit.0))
      (place_kept n names fit (from_of n leg.enter.0) (valid.connections leg.enter.0 is_leg.enter).from_in)

  leg_reports : (kind : List ℕ) (place moment : ℕ) (leg : Leg) → IsLegOf n leg → moment ≤ last_printable → IsReported n version place leg
      → IsLegRow n names version kind place moment leg (leg_record n names version kind (moment_text moment) leg)
  leg_reports kind place moment leg is_leg soon reported = grind (arith, by_version, leg_record, bytes_decides, text_reports, run_back, step_back, place_back)

  -- a table has at most a row for each connection, since rows of one entry have one limit
  by_entry : (place : ℕ) (a b : GraphRow) → IsFitRow n place a → IsFitRow n place b → a.leg.enter.0 ≡ b.leg.enter.0 → a.by.0 ≡ b.by.0
  by_entry place a b first second same = grind arith

  first_row : GraphRow
  first_row = record { by = record { 0 = 0 }; leg = record { enter = record { 0 = 0 }; exit = record { 0 = 0 } } }

  few_legs : (t : PlaceTable) → IsFitTable n t → length t.rows ≤ most_connections
  few_legs t own_table =
      let entry = λ (row : GraphRow). row.leg.enter.0 in
      let entries = map entry t.rows in
      let many : length entries ≡ length t.rows = length-map t.rows entry in
      let differ = IsDistinct-from_apart eqb entries (λ i j d less within.
      rw (get_or-map entry t.rows i first_row d (omega (arith, less, within, many)), get_or-map entry t.rows j first_row d (omega (arith, within, many)))
      (ne_eqb _ _ (λ same. omega (
        arith,
        own_table.rising i j first_row less (omega (arith, within, many)),
        by_entry t.place.0 _ _ (own_table.rows i first_row (omega (arith, less, within, many))) (own_table.rows j first_row (omega (arith, within, many))) same,
      )))) in
      let inside = All-map (λ (e : ℕ). e < count n) entry t.rows (λ k d within. (own_table.rows k d within).is_leg.enter) in
      let few = length-le_from_distinct_below entries (count n) differ (λ q found. All-contains (λ (e : ℕ). e < count n) entries q inside
      (Contains-from_any eqb-true q entries found)) in
      omega (arith, few, many, valid.few_connections)

  table_there : (t : PlaceTable) → IsFitTable n t → t.place.0 < length n.change
  table_there t own_table =
      let row = slice_index_or t.rows 0 first_row in
      let first = own_table.rows 0 first_row (omega (arith, own_table.some)) in
      place_there n valid t.place.0 row.by.0 row.leg first.is_leg first.by

  -- the rows of a table are kept, and give it
  legs_back : (place : ℕ) (rows : List GraphRow) → All (IsReportedRow n version place) rows
      → AreKept (leg_records n names version rows) × AreLegRows n names version place rows (leg_records n names version rows)
  legs_back place [] all = (tt, tt)
  legs_back place (row ∷ rows) all =
      let (fits, reported) = All-head (IsReportedRow n version place) row rows all in
      let (kept, reports) = legs_back place rows (All-tail (IsReportedRow n version place) row rows all) in
      let soon : row.by.0 ≤ last_printable = omega (arith, limit_soon n valid place row.by.0 row.leg fits.is_leg fits.by) in (
        (leg_kept (codes "leg") (moment_text row.by.0) row.leg fits.is_leg refl (moment_kept row.by.0), kept),
        (leg_reports (codes "leg") place row.by.0 row.leg fits.is_leg soon reported, reports),
      )

  place_record_kept : (t : PlaceTable) → IsFitTable n t → IsKept (place_record n names version t)
  place_record_kept t own_table = grind (arith, table_there, few_legs, fields_kept, codes, decimal, place_kept, decimal_kept)

  place_reports : (t : PlaceTable) → IsFitTable n t → IsPlaceRow n names version t.place.0 (length t.rows) (place_record n names version t)
  place_reports t own_table = grind (arith, table_there, by_version, place_record, place_back, whole_back, few_legs)

  tables_back : (tables : List PlaceTable) → All (IsReportedTable n version) tables
      → AreKept (table_records n names version tables) × AreTableRows n names version tables (table_records n names version tables)
  tables_back [] all = (tt, tt)
  tables_back (t ∷ tables) all =
      let (fits, reported) = All-head (IsReportedTable n version) t tables all in
      let legs = legs_back t.place.0 t.rows reported in
      let rest = tables_back tables (All-tail (IsReportedTable n version) t tables all) in (
        (place_record_kept t fits, kept-append (leg_records n names version t.rows) (table_records n names version tables) legs.0 rest.0),
        (place_reports t fits, (leg_records n names version t.rows, table_records n names version tables, refl, legs.1, rest.1)),
      )

  -- the first row
  head_kept : (head : Head) → IsPrintableQuery n head.query → IsKept (head_record names version head)
  head_kept head asked = grind (arith, fields_kept, codes, by_version, place_kept, moment_kept, nanos_kept)

  head_reports : (head : Head) → IsPrintableQuery n head.query → head.bounds.lo ≤ head.bounds.hi → head.bounds.hi < 2 ^ 64 → IsHeadRow names version head (head_record names version head)
  head_reports head asked bounds small = record {
    is_of_kind = by_version (λ v. is_head v (head_record names v head) ≡ true) refl refl version;
    number = by_version (λ v. version_in (head_record names v head) ≡ Some v) refl refl version;
    source = place_back n names fit own head.query.source.0 asked.source;
    target = place_back n names fit own head.query.target.0 asked.target;
    start = text_reports head.query.start.0 asked.start;
    deadline = text_reports head.query.deadline.0 asked.deadline;
    lo = nanos_report head.bounds.lo (omega (arith, bounds, small));
    hi = nanos_report head.bounds.hi small;
  }

  -- a graph that fits, by the start leg and the tables
  graph_printed : (head : Head) (start : Option Leg) (tables : List PlaceTable) → IsFit n head.query (record { start = start; tables = tables })
      → plan_text_in n names version head (record { start = start; tables = tables }) ≡ text_of_records (head_record names version head ∷ graph_records n names version start tables)
  graph_printed head start tables own_graph = grind (arith, eq-eqb, ne_eqb, tables_printed)

  graph_back : (q : Query) (start : Option Leg) (tables : List PlaceTable) → IsFit n q (record { start = start; tables = tables })
      → All (IsReportedTable n version) tables
      → AreKept (graph_records n names version start tables) × AreGraphRows n names version q.source.0 start tables (graph_records n names version start tables)
  graph_back q None tables own_graph all = (tt, refl)
  graph_back q (Some leg) tables own_graph all =
      let enter = valid.connections leg.enter.0 own_graph.starts.is_leg.enter in
      let reported = by_version (λ v. IsReported n v q.source.0 leg) own_graph.starts.leaves tt version in
      let rest = tables_back tables all in (
        (leg_kept (codes "start") (moment_text (dep_of n leg.enter.0)) leg own_graph.starts.is_leg refl (moment_kept (dep_of n leg.enter.0)), rest.0),
        (leg_reports (codes "start") q.source.0 (dep_of n leg.enter.0) leg own_graph.starts.is_leg (omega (arith, enter.forward, enter.early)) reported, rest.1),
      )

  is_text_of : (head : Head) (start : Option Leg) (tables : List PlaceTable) → IsPrintableQuery n head.query → head.query.start.0 ≤ head.query.deadline.0
      → head.bounds.lo ≤ head.bounds.hi → head.bounds.hi < 2 ^ 64 → IsFit n head.query (record { start = start; tables = tables }) → All (IsReportedTable n version) tables
      → IsTextOf n names head (record { start = start; tables = tables }) (plan_text_in n names version head (record { start = start; tables = tables }))
  unfolding row_of_fields
  is_text_of head start tables asked in_time bounds small own_graph all =
      let records = graph_records n names version start tables in
      let back = graph_back head.query start tables own_graph all in
      record {
        version = version;
        first = head_record names version head;
        others = records;
        table = ap table_of (graph_printed head start tables own_graph)
            ∙ table_back (head_record names version head ∷ records) 103 _ (head_kept head asked, back.0) refl refl;
        head_row = head_reports head asked bounds small;
        are_rows = back.1;
        fit = own_graph;
        in_time = in_time;
        bounds = bounds;
      }

-- the version that a graph has can give it
reported_by_version : (n : NetworkModel) (tables : List PlaceTable) (leave : Bool) → tables_leave n tables ≡ leave → All (IsFitTable n) tables → All (IsReportedTable n (version_by leave)) tables
reported_by_version n tables true leave fits = λ k d within.
    let t = slice_index_or tables k d in
    let own = fits k d within in
    let all = and_at (tables_leave n) (λ t. rows_leave n t.place.0 t.rows) refl (λ x xs. refl) tables k d within leave in (
      own,
      λ i e inside. (
        own.rows i e inside,
        eqb-true (from_of n (slice_index_or t.rows i e).leg.enter.0) t.place.0
            (and_at (rows_leave n t.place.0) (λ row. from_of n row.leg.enter.0 == t.place.0) refl (λ x xs. refl) t.rows i e inside all),
      ),
    )
reported_by_version n tables false leave fits = λ k d within. let t = fits k d within in (t, λ i e inside. (t.rows i e inside, tt))

-- a graph that fits is printed, and read back
pub reads_back : (n : NetworkModel) (names : NameLists) (head : Head) (graph : PlanGraph) → IsValid n → NamesFit names n → AreNames names → IsPrintableQuery n head.query
    → head.query.start.0 ≤ head.query.deadline.0 → head.bounds.lo ≤ head.bounds.hi → head.bounds.hi < 2 ^ 64 → IsFit n head.query graph
    → IsReadAs n names head graph (plan_text n names head graph)
reads_back n names head graph valid fit own asked in_time bounds small own_graph =
    let leave = tables_leave n graph.tables in
    text_read n names valid head graph (plan_text n names head graph)
    (is_text_of n names (version_by leave) valid fit own head graph.start graph.tables asked in_time bounds small own_graph (reported_by_version n graph.tables leave refl own_graph.tables))
