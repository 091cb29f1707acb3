-- What the text of a certificate gives, or the first of its faults by line. Value row i is in line i + 2.
use Rattle.std.specs.Prelude.{◌≡◌, ◌≢◌, ℕ, zero, suc, ◌+◌, ◌<◌, Bool, List, [], length, ◌&&◌, ◌⊎◌, nat_le, nat_lt, max, if◌then◌else◌, slice_index_or, codes}
use Rattle.std.specs.{Prelude.{Option, Some, None, Result, Ok, Err}, Option.{option_map, option_and_then}, Result.result_err, Str.bytes_eq}
use Rattle.clock_text.specs.Times.{moment_at, nanos_at}
use Rattle.csv_rows.specs.{Tables.{table_of, header, row_count}, declared.rows.RowsFault.RowsFault}
use Rattle.plan_model.specs.{Results.require, declared.model.Query.Query, Network.{NetworkModel, count}, NameLists.NameLists}
use Rattle.printed_rows.specs.Fields.{field, is_kind, whole_at, number_of, is_query, connection_of, rises}
use Rattle.lower_proof.specs.declared.{LowerBounds.LowerBounds, reader.{BoundsRow.BoundsRow, ValueRow.ValueRow, RowValue.RowValue, ProofFault.ProofFault}}
use Rattle.lower_proof.specs.{declared.reader.ProofFault.TheVariants.{Row, UnknownName, NoConnection, NotRising, OtherQuery, NoMemory}, Certificates.bound_of}
use Rattle.csv_rows.specs.declared.rows.RowsFault.TheVariants as rows

-- ---- the first row

abbrev pub bounds_numbers : Option ℕ → Option ℕ → Option ℕ → Option BoundsRow
bounds_numbers None deadline number = None
bounds_numbers (Some start) None number = None
bounds_numbers (Some start) (Some deadline) None = None
bounds_numbers (Some start) (Some deadline) (Some number) =
    if nat_le start deadline then Some (record { start = record { 0 = start }; deadline = record { 0 = deadline }; number = number }) else None

-- whether it is the first row of a certificate, of the version that is known
abbrev pub is_bounds : List (List ℕ) → Bool
is_bounds r = is_kind (codes "bounds") 7 r && bytes_eq (field r 1) (codes "1")

-- the numbers of the first row, where each is of its form and the start is not after the deadline
abbrev pub bounds_row_in : List (List ℕ) → Option BoundsRow
bounds_row_in r = if is_bounds r then bounds_numbers (moment_at (field r 4)) (moment_at (field r 5)) (whole_at (field r 6)) else None

-- what the first row gives, or the first of its faults
abbrev pub bounds_in : NameLists → ℕ → ℕ → ℕ → List (List ℕ) → Result BoundsRow ProofFault
bounds_in names source target start r =
    require (bounds_row_in r) (Row 1) (λ x.
    require (number_of names.places (field r 2)) (UnknownName 1) (λ from.
    require (number_of names.places (field r 3)) (UnknownName 1) (λ to.
    if is_query from to x.start.0 source target start then Ok x else Err (OtherQuery 1))))

-- ---- a value row

abbrev pub value_numbers : Option ℕ → Option ℕ → Option ValueRow
value_numbers None value = None
value_numbers (Some step) None = None
value_numbers (Some step) (Some value) = Some (record { step = step; value = value })

-- the numbers of a value row, where each is of its form
abbrev pub value_row_in : List (List ℕ) → Option ValueRow
value_row_in r = if is_kind (codes "value") 4 r then value_numbers (whole_at (field r 2)) (nanos_at (field r 3)) else None

-- the connection of a value row
abbrev pub connection_in : NetworkModel → NameLists → List (List ℕ) → Option ℕ
connection_in network names r = option_and_then (λ x. option_and_then (λ run. connection_of network run x.step) (number_of names.runs (field r 1))) (value_row_in r)

-- and its value
abbrev pub nanos_in : List (List ℕ) → Option ℕ
nanos_in r = option_map (λ x. x.value) (value_row_in r)

-- what a value row gives after one of an earlier connection, or the first of its faults
abbrev pub reported_in : NetworkModel → NameLists → ℕ → Option ℕ → List (List ℕ) → Result RowValue ProofFault
reported_in network names line before r =
    require (value_row_in r) (Row line) (λ x.
    require (number_of names.runs (field r 1)) (UnknownName line) (λ run.
    require (connection_of network run x.step) (NoConnection line) (λ c.
    if rises before c then Ok (record { id = record { 0 = c }; value = x.value }) else Err (NotRising line))))

-- ---- all lines

-- value row i; it has no field where the table ends before it
abbrev pub value_row : List (List (List ℕ)) → ℕ → List (List ℕ)
value_row t i = slice_index_or t (i + 1) []

-- the connection of the value row before, if there is one
abbrev pub connection_before : NetworkModel → NameLists → List (List (List ℕ)) → ℕ → Option ℕ
connection_before network names t zero = None
connection_before network names t (suc i) = connection_in network names (value_row t i)

-- the first fault of value row i, of which the first row states this many
abbrev pub value_fault : NetworkModel → NameLists → List (List (List ℕ)) → ℕ → ℕ → Option ProofFault
value_fault network names t stated i =
    if nat_lt i stated then result_err (reported_in network names (i + 2) (connection_before network names t i) (value_row t i)) else Some (Row (i + 2))

-- it is that of a value row, or of one that is missing, and no line before has one
pub record IsFirstLineFault (network : NetworkModel) (names : NameLists) (t : List (List (List ℕ))) (stated : ℕ) (fault : ProofFault) : Type 0 where
  pub i : ℕ
  pub within : i < max (row_count t) stated
  pub here : value_fault network names t stated i ≡ Some fault
  pub first : (k : ℕ) → k < i → value_fault network names t stated k ≡ None

-- the first fault by line: that of the first row, or else that of the first value row that has one
abbrev pub IsFaultAfter : NetworkModel → NameLists → List (List (List ℕ)) → Result BoundsRow ProofFault → ProofFault → Type 0
IsFaultAfter network names t (Ok bounds) fault = IsFirstLineFault network names t bounds.number fault
IsFaultAfter network names t (Err first) fault = first ≡ fault

-- no line has a fault, and the values are those of the value rows
pub record AreValuesReported (network : NetworkModel) (names : NameLists) (t : List (List (List ℕ))) (stated : ℕ) (values : List (Option ℕ)) : Type 0 where
  pub faultless : (i : ℕ) → i < max (row_count t) stated → value_fault network names t stated i ≡ None
  pub as_many : length values ≡ count network
  pub reported : (i c : ℕ) → i < row_count t → connection_in network names (value_row t i) ≡ Some c → bound_of values c ≡ nanos_in (value_row t i)
  pub others : (c : ℕ) → ((i : ℕ) → i < row_count t → connection_in network names (value_row t i) ≢ Some c) → bound_of values c ≡ None

-- the query has the source, the target and the start, and the deadline of the first row
pub record IsProofReported (network : NetworkModel) (names : NameLists) (source target start : ℕ) (t : List (List (List ℕ))) (query : Query) (values : List (Option ℕ)) : Type 0 where
  pub bounds : BoundsRow
  pub head : bounds_in names source target start (header t) ≡ Ok bounds
  pub from : query.source.0 ≡ source
  pub to : query.target.0 ≡ target
  pub since : query.start.0 ≡ start
  pub until : query.deadline ≡ bounds.deadline
  pub reported : AreValuesReported network names t bounds.number values

-- the fault of a text that is no table: it has no first row, or there was no memory
abbrev pub fault_of_rows : RowsFault → ProofFault
fault_of_rows rows.NoHeader = Row 1
fault_of_rows rows.NoMemory = NoMemory

-- what is read of a text, of this source, target and start: a query and values, or the first fault, or there was no memory
abbrev pub IsProofRead : NetworkModel → NameLists → ℕ → ℕ → ℕ → List ℕ → Result (Query × LowerBounds) ProofFault → Type 0
IsProofRead network names source target start text (Ok read) = IsProofReported network names source target start (table_of text) read.0 read.1.values
IsProofRead network names source target start text (Err fault) =
    (fault ≡ NoMemory) ⊎ IsFaultAfter network names (table_of text) (bounds_in names source target start (header (table_of text))) fault

-- it is this query and these values, unless there was no memory
abbrev pub IsReadBack : Query → List (Option ℕ) → Result (Query × LowerBounds) ProofFault → Type 0
IsReadBack query values (Ok read) = (read.0 ≡ query) × (read.1.values ≡ values)
IsReadBack query values (Err fault) = fault ≡ NoMemory

-- whatever is read of the text for this query's source, target and start
abbrev pub ReadsBack : NetworkModel → NameLists → Query → List (Option ℕ) → List ℕ → Type 0
ReadsBack network names query values text = (result : Result (Query × LowerBounds) ProofFault)
    → IsProofRead network names query.source.0 query.target.0 query.start.0 text result → IsReadBack query values result
