-- The texts of faults.
use Rattle.std.specs.Prelude.{ℕ, List, ◌++◌, codes, decimal}
use Rattle.csv_rows.specs.{Columns.name_of, FeedTables.file_name, declared.feed_tables.FeedFault.{FeedFault, TheVariants.{Read, TooLong, MissingTable}}}
use Rattle.csv_rows.specs.declared.feed_tables.FeedFault.TheVariants.{MissingColumn, BadField, UnknownKey, DuplicateKey, BackwardTime, TooManyRows, NoMemory}

-- what is wrong at a line of a file
abbrev pub at_line : (file : List ℕ) → ℕ → (what : List ℕ) → List ℕ
at_line file line what = file ++ (codes " line " ++ (decimal line ++ (codes ": " ++ what)))

-- a file has too many rows, and how many
abbrev pub too_many_rows : (file : List ℕ) → ℕ → List ℕ
too_many_rows file count = file ++ (codes " has too many rows: " ++ decimal count)

-- the text of a fault of a feed
abbrev pub feed_fault_text : FeedFault → List ℕ
feed_fault_text (MissingTable table) = file_name table ++ codes " is missing"
feed_fault_text (MissingColumn table column) = file_name table ++ (codes " has no column " ++ name_of column)
feed_fault_text (BadField table line column) = at_line (file_name table) line (codes "bad " ++ name_of column)
feed_fault_text (UnknownKey table line column) = at_line (file_name table) line (codes "unknown " ++ name_of column)
feed_fault_text (DuplicateKey table line) = at_line (file_name table) line (codes "repeated key")
feed_fault_text (BackwardTime line) = at_line (codes "stop_times.txt") line (codes "time goes back")
feed_fault_text (Read table) = codes "cannot read " ++ file_name table
feed_fault_text (TooLong table) = file_name table ++ codes " is too long"
feed_fault_text (TooManyRows table count) = too_many_rows (file_name table) count
feed_fault_text NoMemory = codes "out of memory"
