-- What a folder holds of a table, the faults of reading it, and the records of a required one.
use Rattle.std.specs.Prelude.{◌≡◌, ℕ, ◌≤◌, ◌==◌, nat_lt, List, [], length, Option, None, Some, Result, Ok, Err, IsErrAnd, if◌then◌else◌}
use Rattle.file_ports.specs.{Counts.HasCausesOf, Ports.{FileMap, FilesState, file_at}}
use Rattle.csv_rows.specs.declared.feed_tables.{Table.Table, FeedFault.{FeedFault, TheVariants.{Read, TooLong, TooManyRows, MissingTable, MissingColumn}}}
use Rattle.csv_rows.specs.{declared.{limits.Limits.Limits, columns.Column.Column}, FeedTables.{path_of, is_unread_table}, Limits.rows_of, Tables.table_of}
use Rattle.csv_rows.specs.Tables.{row_count}
use Rattle.table_files.specs.declared.loading.Loaded.{Loaded, TheVariants.{Absent, NoRecord, Found}}

-- the records of a table, of which at most `most` may come after the header
abbrev pub loaded_from : Table → ℕ → List (List (List ℕ)) → Result Loaded FeedFault
loaded_from table most t =
    if length t == 0 then Ok NoRecord
    else if nat_lt most (row_count t) then Err (TooManyRows table (row_count t)) else Ok (Found t)

-- what a file is as a table, or none where there is no file
abbrev pub loaded_file : Limits → Table → Option (List ℕ) → Result Loaded FeedFault
loaded_file limits table None = Ok Absent
loaded_file limits table (Some bytes) =
    if nat_lt limits.bytes (length bytes) then Err (TooLong table) else loaded_from table (rows_of limits table) (table_of bytes)

-- what the bytes of a file are as a table, where they are not too many, or none where there is no file
abbrev pub loaded_bytes : Limits → Table → Option (List ℕ) → Result Loaded FeedFault
loaded_bytes limits table None = Ok Absent
loaded_bytes limits table (Some bytes) = loaded_from table (rows_of limits table) (table_of bytes)

-- what is loaded of a file, where at most this table could not be read
abbrev pub load_of : Option Table → Limits → Table → Option (List ℕ) → Result Loaded FeedFault
load_of unread limits table file = if is_unread_table unread table then Err (Read table) else loaded_file limits table file

-- what a folder holds of a table, where at most one table could not be read
abbrev pub load_in : FileMap → List ℕ → Limits → Option Table → Table → Result Loaded FeedFault
load_in files folder limits unread table = load_of unread limits table (file_at files (path_of folder table))

-- the records, of which a table that is absent has none, and neither has one whose file has no record
abbrev pub loaded_rows : Loaded → List (List (List ℕ))
loaded_rows (Found t) = t
loaded_rows Absent = []
loaded_rows NoRecord = []

-- there is no file
abbrev pub IsAbsent : Loaded → Type 0
IsAbsent Absent = Unit {0}
IsAbsent NoRecord = ⊥
IsAbsent (Found t) = ⊥

-- it has at most this number of rows
abbrev pub HasAtMost : ℕ → Loaded → Type 0
HasAtMost most Absent = Unit {0}
HasAtMost most NoRecord = Unit {0}
HasAtMost most (Found t) = row_count t ≤ most

-- the files are kept, and `Read` of a table of this folder comes only where the counts rose, and always where the count of all grew
abbrev pub HasFeedCauses : {T : Type 0} (folder : List ℕ) (before now : FilesState) → Result T FeedFault → Type 0
HasFeedCauses folder before now result =
    HasCausesOf (λ table. IsErrAnd result (λ fault. fault ≡ Read table)) (λ table. Some (path_of folder table)) before now

-- the records of a table
abbrev pub Records : Type 0
Records = List (List (List ℕ))

-- a required table is present, and has a record; else it is missing, or its first column is
abbrev pub required : Table → Column → Result Loaded FeedFault → Result Records FeedFault
required table first (Ok Absent) = Err (MissingTable table)
required table first (Ok NoRecord) = Err (MissingColumn table first)
required table first (Ok (Found t)) = Ok t
required table first (Err fault) = Err fault

-- it is so of a table that has no fault
abbrev pub IsOfSomeTable : {T : Type 0} → (T → Option FeedFault) → (T → Type 0) → Type 0
IsOfSomeTable {T} fault is = (t : T) × (fault t ≡ None) × is t
