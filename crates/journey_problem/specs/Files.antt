-- The files that a command reads, and the causes of their faults.
use Rattle.std.specs.Prelude.{◌≡◌, ◌≢◌, ℕ, ◌+◌, ◌≤◌, List, [], ◌∷◌, length, Option, None, Some, Result, Ok, Err, IsErrAnd, IfSome, if◌then◌else◌, nat_lt}
use Rattle.plan_model.specs.Results.{and_then}
use Rattle.file_ports.specs.{Counts.HasCausesOf, Ports.{FileMap, FilesState, file_at}}
use Rattle.csv_rows.specs.{FeedTables.path_of as table_path, Tables.table_of, declared.feed_tables.Table.Table}
use Rattle.command_line.specs.Jobs.{SourceModel, CutFile, FeedFolder, JourneyModel}
use Rattle.journey_model.specs.declared.faults.{Input.Input, LimitKind.TheVariants.Bytes, Fault.{Fault, TheVariants.{Words, Feed, Cut, Missing, Delays}}}
use Rattle.journey_model.specs.declared.faults.Fault.TheVariants.{UnknownStop, Limit, Read, NoSafe, GraphFile, Replay, ProofFile, ProofFails, Unsafe, Write}
use Rattle.journey_model.specs.{declared.faults.Fault.TheVariants.NoMemory, Faults.{unread_input, is_unread_input}}
use Rattle.graph_text.specs.declared.reader.TextFault.TheVariants as text
use Rattle.lower_proof.specs.declared.reader.ProofFault.TheVariants as certificate
use Rattle.journey_model.specs.declared.faults.Input.TheVariants as input

-- the records of a table, of which the first is the header
abbrev pub Records : Type 0
Records = List (List (List ℕ))

abbrev pub cut_path : SourceModel → Option (List ℕ)
cut_path (CutFile path) = Some path
cut_path (FeedFolder folder horizon) = None

abbrev pub feed_path : SourceModel → Table → Option (List ℕ)
feed_path (CutFile path) table = None
feed_path (FeedFolder folder horizon) table = Some (table_path folder table)

-- the paths of the inputs that are read beside the files of a journey
abbrev pub OwnPaths : Type 0
OwnPaths = Input → Option (List ℕ)

-- the path of an input: of a journey's files over a timetable, or of another file that is read beside them, by its own
abbrev pub path_by : SourceModel → JourneyModel → OwnPaths → Input → Option (List ℕ)
path_by timetable j own (input.Feed table) = feed_path timetable table
path_by timetable j own input.Cut = cut_path timetable
path_by timetable j own input.Delays = Some j.delays
path_by timetable j own input.Graph = own input.Graph
path_by timetable j own input.Proof = own input.Proof

abbrev pub path_of : JourneyModel → OwnPaths → Input → Option (List ℕ)
path_of j own = path_by j.timetable j own

-- both files at each of these paths have the same bytes, or neither is there
abbrev pub AgreeAt : (Input → Option (List ℕ)) → FileMap → FileMap → Type 0
AgreeAt paths files others = (input : Input) → IfSome (paths input) (λ path. file_at files path ≡ file_at others path)

-- neither file is there; or both have the same records, and are not too long
abbrev pub HaveSameRecords : ℕ → Option (List ℕ) → Option (List ℕ) → Type 0
HaveSameRecords most None None = Unit {0}
HaveSameRecords most None (Some other) = ⊥
HaveSameRecords most (Some file) None = ⊥
HaveSameRecords most (Some file) (Some other) = (length file ≤ most) × (length other ≤ most) × (table_of file ≡ table_of other)

-- so it is at each of these paths
abbrev pub ReadAlikeAt : ℕ → (Input → Option (List ℕ)) → FileMap → FileMap → Type 0
ReadAlikeAt most paths files others = (input : Input) → IfSome (paths input) (λ path. HaveSameRecords most (file_at files path) (file_at others path))

-- the bytes of a file that is there and not too long
abbrev pub bytes_present : ℕ → Input → Option (List ℕ) → Result (List ℕ) Fault
bytes_present most input None = Err (Missing input)
bytes_present most input (Some bytes) = if nat_lt most (length bytes) then Err (Limit (Bytes input) (most + 1)) else Ok bytes

-- the bytes of a file, if at most one file is unread
abbrev pub bytes_of : ℕ → Input → Option Input → Option (List ℕ) → Result (List ℕ) Fault
bytes_of most input unread file = if is_unread_input unread input then Err (Read input) else bytes_present most input file

-- a file with no record has the fault that is given for it
abbrev pub with_header : Fault → Records → Result Records Fault
with_header headless [] = Err headless
with_header headless (header ∷ rows) = Ok (header ∷ rows)

-- the table of a file, or the first fault in loading it
abbrev pub records_of : ℕ → Input → Fault → Option Input → Option (List ℕ) → Result Records Fault
records_of most input headless unread file = and_then (bytes_of most input unread file) (λ bytes. with_header headless (table_of bytes))

-- the answer is what is wanted: a value if no file is unread, and otherwise the fault that holds first, or that there is no memory
abbrev pub Finds : {A B : Type 0} → (A → B) → (Option Input → Result B Fault) → Result A Fault → Type 0
Finds shown wanted (Ok a) = wanted None ≡ Ok (shown a)
Finds shown wanted (Err fault) = fault ≢ NoMemory → wanted (unread_input fault) ≡ Err fault

-- the files are kept, and `Read` comes only if the count of faults rose, and if the files are known only if that of the input's
-- own path rose too; and always if it grew
abbrev pub HasCauses : {T : Type 0} (path : Input → Option (List ℕ)) (before now : FilesState) → Result T Fault → Type 0
HasCauses path before now result = HasCausesOf (λ input. IsErrAnd result (λ fault. fault ≡ Read input)) path before now

-- it is of this graph file or certificate file: that it cannot be read, is missing or too long, or of what it contains
abbrev pub IsOfInput : Input → Fault → Type 0
IsOfInput file (Words fault) = ⊥
IsOfInput file (Feed fault) = ⊥
IsOfInput file (Cut fault) = ⊥
IsOfInput file (Missing other) = other ≡ file
IsOfInput file (Delays fault) = ⊥
IsOfInput file (UnknownStop which) = ⊥
IsOfInput file (Limit kind count) = kind ≡ Bytes file
IsOfInput file (Read other) = other ≡ file
IsOfInput file NoSafe = ⊥
IsOfInput file (GraphFile fault) = (file ≡ input.Graph) × (fault ≢ text.NoMemory)
IsOfInput file (Replay fault) = ⊥
IsOfInput file (ProofFile fault) = (file ≡ input.Proof) × (fault ≢ certificate.NoMemory)
IsOfInput file (ProofFails connection) = ⊥
IsOfInput file (Unsafe place moment) = ⊥
IsOfInput file Write = ⊥
IsOfInput file NoMemory = ⊥
