-- The first fault of a text that is no graph: the rows before its line are those of a graph, and the row of its line breaks a rule.
use Rattle.std.specs.Prelude.{◌≡◌, ◌≢◌, ℕ, zero, suc, ◌+◌, ◌≤◌, List, [], ◌∷◌, Option, Some, None, IsSome, IsTrue, ◌⊎◌, codes}
use Rattle.clock_text.specs.Times.{moment_at, nanos_at}
use Rattle.csv_rows.specs.Tables.{table_of}
use Rattle.plan_model.specs.{declared.model.Leg.Leg, Network.{NetworkModel, from_of, dep_of}, NameLists.NameLists}
use Rattle.plan_graph.specs.{declared.GraphRow.GraphRow, Ready.IsLegOf, Tidy.IsFitRow}
use Rattle.printed_rows.specs.Fields.{field, is_kind, whole_at, number_of, rises}
use Rattle.graph_text.specs.declared.{Head.Head, reader.TextFault.{TextFault, TheVariants.{Row, UnknownName, NotRising, NoLeg, OtherQuery, NoMemory}}}
use Rattle.graph_text.specs.{declared.version.Version.Version, Versions.width_of, Asked.IsHeadOf, GraphRows.{entry_in, is_place, is_head, version_in}}
use Rattle.graph_text.specs.GraphRows.{IsHeadRow, IsLegRow, IsPlaceRow}

-- ---- the rules on the row of a line, in their order: it has its form, its names are known, it is later than the row before, it agrees with the network, and it is of the question

-- it breaks the rule that the fault names, and keeps those before
abbrev pub Breaks : ℕ → Type 0 → Type 0 → Type 0 → Type 0 → Type 0 → TextFault → Type 0
Breaks line form known later agreed asked (Row at) = (at ≡ line) × ¬ form
Breaks line form known later agreed asked (UnknownName at) = (at ≡ line) × form × ¬ known
Breaks line form known later agreed asked (NotRising at) = (at ≡ line) × form × known × ¬ later
Breaks line form known later agreed asked (NoLeg at) = (at ≡ line) × form × known × later × ¬ agreed
Breaks line form known later agreed asked (OtherQuery at) = (at ≡ line) × form × known × later × agreed × ¬ asked
Breaks line form known later agreed asked NoMemory = ⊥

-- ---- the rules on a row of a leg

-- the fields of its leg are moments and whole numbers, after a moment of its own
pub record HasLegForm (version : Version) (kind : List ℕ) (moment : ℕ) (r : List (List ℕ)) : Type 0 where
  pub is_of_kind : IsTrue (is_kind kind (width_of version) r)
  pub by : moment_at (field r 1) ≡ Some moment
  pub enter : IsSome (whole_at (field r 3))
  pub departure : IsSome (moment_at (field r 4))
  pub exit : IsSome (whole_at (field r 5))
  pub arrival : IsSome (moment_at (field r 7))

-- its run and its two places are known
pub record HasLegNames (names : NameLists) (version : Version) (place : ℕ) (r : List (List ℕ)) : Type 0 where
  pub run : IsSome (number_of names.runs (field r 2))
  pub to : IsSome (number_of names.places (field r 6))
  pub from : IsSome (entry_in version names place r)

-- its moment is later than the last one, if there is one
abbrev pub HasLaterMoment : Option ℕ → List (List ℕ) → Type 0
HasLaterMoment last r = (moment : ℕ) × (moment_at (field r 1) ≡ Some moment) × IsTrue (rises last moment)

-- it is that of a leg of the network, which can be taken from the place up to its moment
pub record IsRowOf (network : NetworkModel) (names : NameLists) (version : Version) (place : ℕ) (row : GraphRow) (r : List (List ℕ)) : Type 0 where
  pub fields : IsLegRow network names version (codes "leg") place row.by.0 row.leg r
  pub fit : IsFitRow network place row

-- a leg row of a place, after one by an earlier moment
abbrev pub BreaksAtLeg : NetworkModel → NameLists → Version → ℕ → ℕ → Option ℕ → List (List ℕ) → TextFault → Type 0
BreaksAtLeg network names version line place last r =
    Breaks line ((moment : ℕ) × HasLegForm version (codes "leg") moment r) (HasLegNames names version place r) (HasLaterMoment last r)
    ((row : GraphRow) × IsRowOf network names version place row r) (Unit {0})

-- it is that of a leg of the network that leaves the source at the start or later
pub record IsStartOf (network : NetworkModel) (names : NameLists) (version : Version) (source start : ℕ) (leg : Leg) (r : List (List ℕ)) : Type 0 where
  pub fields : IsLegRow network names version (codes "start") source (dep_of network leg.enter.0) leg r
  pub is_leg : IsLegOf network leg
  pub leaves : from_of network leg.enter.0 ≡ source
  pub in_time : start ≤ dep_of network leg.enter.0

-- the start row, which is there where source and target differ
abbrev pub BreaksAtStart : NetworkModel → NameLists → Version → ℕ → ℕ → ℕ → List (List ℕ) → TextFault → Type 0
BreaksAtStart network names version source target start r =
    Breaks 2 ((source ≢ target) × ((moment : ℕ) × HasLegForm version (codes "start") moment r)) (HasLegNames names version source r) (Unit {0})
    ((leg : Leg) × IsStartOf network names version source start leg r) (Unit {0})

-- ---- the rules on the row of a place

-- its fields after the name are two whole numbers, of which the second is how many leg rows it has, at least one
pub record HasPlaceForm (version : Version) (r : List (List ℕ)) : Type 0 where
  pub is_of_kind : IsTrue (is_place version r)
  pub change : IsSome (whole_at (field r 2))
  pub rows : (more : ℕ) × (whole_at (field r 3) ≡ Some (suc more))

-- its place is after the last one, if there is one
abbrev pub HasLaterPlace : NameLists → Option ℕ → List (List ℕ) → Type 0
HasLaterPlace names last r = (place : ℕ) × (number_of names.places (field r 1) ≡ Some place) × IsTrue (rises last place)

-- the row of a place, after one of an earlier place
abbrev pub BreaksAtPlace : NetworkModel → NameLists → Version → ℕ → Option ℕ → List (List ℕ) → TextFault → Type 0
BreaksAtPlace network names version line last r =
    Breaks line (HasPlaceForm version r) (IsSome (number_of names.places (field r 1))) (HasLaterPlace names last r)
    ((place many : ℕ) × IsPlaceRow network names version place many r) (Unit {0})

-- ---- the rules on the first row

-- it gives a version, two moments and two bounds, each pair in order
pub record HasHeadForm (version : Version) (r : List (List ℕ)) : Type 0 where
  pub is_of_kind : IsTrue (is_head version r)
  pub number : version_in r ≡ Some version
  pub moments : (start deadline : ℕ) × (moment_at (field r 4) ≡ Some start) × (moment_at (field r 5) ≡ Some deadline) × (start ≤ deadline)
  pub bounds : (lo hi : ℕ) × (nanos_at (field r 6) ≡ Some lo) × (nanos_at (field r 7) ≡ Some hi) × (lo ≤ hi)

-- its source and its target are known
abbrev pub HasHeadNames : NameLists → List (List ℕ) → Type 0
HasHeadNames names r = IsSome (number_of names.places (field r 2)) × IsSome (number_of names.places (field r 3))

-- its source, target and start are these
pub record IsOfQuestion (names : NameLists) (source target start : ℕ) (r : List (List ℕ)) : Type 0 where
  pub from : number_of names.places (field r 2) ≡ Some source
  pub to : number_of names.places (field r 3) ≡ Some target
  pub since : moment_at (field r 4) ≡ Some start

abbrev pub BreaksAtHead : NameLists → ℕ → ℕ → ℕ → List (List ℕ) → TextFault → Type 0
BreaksAtHead names source target start r =
    Breaks 1 ((version : Version) × HasHeadForm version r) (HasHeadNames names r) (Unit {0}) (Unit {0}) (IsOfQuestion names source target start r)

-- ---- the rows of a text

-- what is to come at a line: the row of a place after the last one, or the end; or a leg row of a place by a moment after the last one, and this many more
pub data Coming : Type 0 where
  PlaceNext : Option ℕ → Coming
  LegNext : ℕ → ℕ → Option ℕ → Coming

-- after a leg row of a place, by a moment, where this many more of it were to come
abbrev pub after_leg : ℕ → ℕ → ℕ → Coming
after_leg place zero moment = PlaceNext (Some place)
after_leg place (suc more) moment = LegNext place more (Some moment)

-- of the rows from a line on, the first that breaks a rule has this fault; or the first that is missing
abbrev pub HaveFirstFault : NetworkModel → NameLists → Version → List (List (List ℕ)) → ℕ → Coming → TextFault → Type 0
HaveFirstFault network names version [] line (PlaceNext last) fault = ⊥
HaveFirstFault network names version [] line (LegNext place more last) fault = fault ≡ Row line
HaveFirstFault network names version (r ∷ rs) line (PlaceNext last) fault =
    BreaksAtPlace network names version line last r fault
    ⊎ ((place more : ℕ) × IsPlaceRow network names version place (suc more) r × IsTrue (rises last place)
    × HaveFirstFault network names version rs (line + 1) (LegNext place more None) fault)
HaveFirstFault network names version (r ∷ rs) line (LegNext place more last) fault =
    BreaksAtLeg network names version line place last r fault
    ⊎ ((row : GraphRow) × IsRowOf network names version place row r × IsTrue (rises last row.by.0)
    × HaveFirstFault network names version rs (line + 1) (after_leg place more row.by.0) fault)

-- of those after the first row: a start row and tables where source and target differ, and no row where they do not
abbrev pub HaveFaultAfterHead : NetworkModel → NameLists → Version → ℕ → ℕ → ℕ → List (List (List ℕ)) → TextFault → Type 0
HaveFaultAfterHead network names version source target start [] fault = (fault ≡ Row 2) × (source ≢ target)
HaveFaultAfterHead network names version source target start (r ∷ rs) fault =
    BreaksAtStart network names version source target start r fault
    ⊎ ((leg : Leg) × IsStartOf network names version source start leg r × (source ≢ target)
    × HaveFirstFault network names version rs 3 (PlaceNext None) fault)

-- of all rows
abbrev pub HaveFault : NetworkModel → NameLists → ℕ → ℕ → ℕ → List (List (List ℕ)) → TextFault → Type 0
HaveFault network names source target start [] fault = fault ≡ Row 1
HaveFault network names source target start (r ∷ rs) fault =
    BreaksAtHead names source target start r fault
    ⊎ ((version : Version) × (head : Head) × IsHeadRow names version head r × IsHeadOf source target start head
    × HaveFaultAfterHead network names version source target start rs fault)

-- the text, asked for this source, target and start, has this as its first fault by line
abbrev pub IsFirstFaultOf : NetworkModel → NameLists → ℕ → ℕ → ℕ → List ℕ → TextFault → Type 0
IsFirstFaultOf network names source target start text fault = HaveFault network names source target start (table_of text) fault
