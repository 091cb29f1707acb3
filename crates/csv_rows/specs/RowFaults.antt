-- The faults that tables have alike. Row i is line i + 2.
use Rattle.std.specs.{Prelude.{◌≡◌, ◌≢◌, ℕ, ◌+◌, List, [], ◌∷◌, Option, None, Some, is_none, Result, MatchResult, if◌then◌else◌}, Option.option_or}
use Rattle.std.specs.Str.{bytes_eq}
use Rattle.csv_rows.specs.declared.{columns.Column.Column, feed_tables.{Table.Table, FeedFault.{FeedFault, TheVariants.{MissingColumn, DuplicateKey}}}}
use Rattle.csv_rows.specs.{declared.feed_tables.FeedFault.TheVariants.NoMemory, FeedTables.{unread_table, IsFaultOf}, Lists.any_below, Tables.index_of}

-- a required column is not in the header
abbrev pub lack : Table → Column → Option ℕ → Option FeedFault
lack table column index = if is_none index then Some (MissingColumn table column) else None

-- the first of these columns that is not in a table's header
abbrev pub first_missing : Table → List (List (List ℕ)) → List Column → Option FeedFault
first_missing table t [] = None
first_missing table t (column ∷ columns) = option_or (lack table column (index_of column t)) (first_missing table t columns)

-- an earlier row has the id of row i
unfoldable pub repeated_id : Table → (ℕ → List ℕ) → ℕ → Option FeedFault
repeated_id table id i = if any_below (λ j. bytes_eq (id j) (id i)) i then Some (DuplicateKey table (i + 2)) else None

-- a step in reading a table answers its first fault, or that there is no memory; and never that the file cannot be read
pub record IsFirstFault (table : Table) (first : Option FeedFault) (fault : FeedFault) : Type 0 where
  pub why : fault ≢ NoMemory → first ≡ Some fault
  pub content : unread_table fault ≡ None
  pub own : IsFaultOf table fault

-- the step has a value where the table has none of its faults, and else such a fault
abbrev pub ReportsFirst : {T : Type 0} → Table → Option FeedFault → Result T FeedFault → Type 0
ReportsFirst table first result = MatchResult result (λ _. first ≡ None) (IsFirstFault table first)
