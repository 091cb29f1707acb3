-- A table: its records, the header first, and its fields by row and column.
use Rattle.std.specs.{Prelude.{ℕ, List, [], slice_index_or, Option, Some, None, ◌+◌, ◌-◌, map, length, if◌then◌else◌}, Str.bytes_eq}
use Rattle.csv.specs.Reading.{default_config, records, strip_bom}
use Rattle.csv_rows.specs.{declared.columns.Column.Column, Columns.name_of, Lists.first_below, Spaces.trimmed_text}

-- the field of a record at an index: empty past its end, and where there is no index
abbrev pub field_of : List (List ℕ) → Option ℕ → List ℕ
field_of fields None = []
field_of fields (Some k) = slice_index_or fields k []

-- the records of a text: those of RFC 4180 as the csv crate takes them from the text without its byte-order mark, with no
-- ASCII space round a field
abbrev pub table_of : List ℕ → List (List (List ℕ))
table_of text = map (λ row. map trimmed_text row) (records default_config (strip_bom text))

-- the first record names the columns
abbrev pub header : List (List (List ℕ)) → List (List ℕ)
header t = slice_index_or t 0 []

-- the others are the rows
abbrev pub row_count : List (List (List ℕ)) → ℕ
row_count t = length t - 1

-- the index of the first of these names that is this one
unfoldable pub number_in : List ℕ → List (List ℕ) → Option ℕ
number_in name names = first_below (λ k. if bytes_eq (slice_index_or names k []) name then Some k else None) (length names)

-- the index of a column in the header
abbrev pub index_of : Column → List (List (List ℕ)) → Option ℕ
index_of column t = number_in (name_of column) (header t)

-- the field of a row at an index: empty past the row's end, and if the table does not have the column
abbrev pub field_at : List (List (List ℕ)) → Option ℕ → ℕ → List ℕ
field_at t None i = []
field_at t (Some k) i = slice_index_or (slice_index_or t (i + 1) []) k []

-- the field of a row under a column
abbrev pub field : List (List (List ℕ)) → Column → ℕ → List ℕ
field t column i = field_at t (index_of column t) i
