-- The tables of a feed by the names of their files.
use Rattle.std.specs.Prelude.{◌≡◌, ℕ, ◌==◌, Bool, false, List, ◌∷◌, ◌++◌, codes, Option, Some, None, IfSome}
use Rattle.csv_rows.specs.declared.feed_tables.Table.{Table, TheVariants.{Stops, Routes, Trips, StopTimes, Frequencies, Calendar, CalendarDates, Transfers}}
use Rattle.csv_rows.specs.declared.feed_tables.FeedFault.{FeedFault, TheVariants.{Read, TooLong, MissingTable, MissingColumn, BadField, UnknownKey}}
use Rattle.csv_rows.specs.declared.feed_tables.FeedFault.TheVariants.{DuplicateKey, BackwardTime, TooManyRows, NoMemory}

-- the name of a table's file
abbrev pub file_name : Table → List ℕ
file_name Stops = codes "stops.txt"
file_name Routes = codes "routes.txt"
file_name Trips = codes "trips.txt"
file_name StopTimes = codes "stop_times.txt"
file_name Frequencies = codes "frequencies.txt"
file_name Calendar = codes "calendar.txt"
file_name CalendarDates = codes "calendar_dates.txt"
file_name Transfers = codes "transfers.txt"

-- the path of a table in a folder
abbrev pub path_of : List ℕ → Table → List ℕ
path_of folder table = folder ++ 47 ∷ file_name table

-- the position of a table in the order in which they are read
abbrev pub rank_of : Table → ℕ
rank_of Stops = 0
rank_of Routes = 1
rank_of Trips = 2
rank_of StopTimes = 3
rank_of Frequencies = 4
rank_of Calendar = 5
rank_of CalendarDates = 6
rank_of Transfers = 7

-- the table that could not be read, where the fault is of this kind
abbrev pub unread_table : FeedFault → Option Table
unread_table (Read table) = Some table
unread_table (TooLong table) = None
unread_table (MissingTable table) = None
unread_table (MissingColumn table column) = None
unread_table (BadField table line column) = None
unread_table (UnknownKey table line column) = None
unread_table (DuplicateKey table line) = None
unread_table (BackwardTime line) = None
unread_table (TooManyRows table count) = None
unread_table NoMemory = None

-- whether this table is the one that could not be read
abbrev pub is_unread_table : Option Table → Table → Bool
is_unread_table None table = false
is_unread_table (Some unread) table = rank_of unread == rank_of table

-- the table that a fault is in; out of memory is in none
abbrev pub table_of_fault : FeedFault → Option Table
table_of_fault (Read table) = Some table
table_of_fault (TooLong table) = Some table
table_of_fault (MissingTable table) = Some table
table_of_fault (MissingColumn table column) = Some table
table_of_fault (BadField table line column) = Some table
table_of_fault (UnknownKey table line column) = Some table
table_of_fault (DuplicateKey table line) = Some table
table_of_fault (BackwardTime line) = Some StopTimes
table_of_fault (TooManyRows table count) = Some table
table_of_fault NoMemory = None

-- it is in this table, or there was no memory
abbrev pub IsFaultOf : Table → FeedFault → Type 0
IsFaultOf table fault = IfSome (table_of_fault fault) (λ t. t ≡ table)
