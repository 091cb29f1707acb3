-- The records of a table, each with the number of its line, and printed rows.
use Rattle.std.specs.Prelude.{ℕ, ◌+◌, List, [], slice_index_or, Option, Some, None, ◌∷◌, ◌++◌}
use Rattle.csv_rows.specs.Tables.{header}
use Rattle.plan_model.specs.NameLists.{NameLists}
use Rattle.csv.specs.Writing.{default_writer, row_text}

-- the number of its line, and its fields
pub record ShownRecord : Type 0 where
  pub line : ℕ
  pub fields : List (List ℕ)

-- the first record, or that of a row
abbrev pub record_at : List (List (List ℕ)) → Option ℕ → ShownRecord
record_at t None = record { line = 1; fields = header t }
record_at t (Some row) = record { line = row + 2; fields = slice_index_or t (row + 1) [] }

-- a printed row of fields
unfoldable pub row_of_fields : List (List ℕ) → List ℕ
row_of_fields fields = row_text default_writer fields

-- printed rows, one after the other
abbrev pub text_of_records : List (List (List ℕ)) → List ℕ
text_of_records [] = []
text_of_records (fields ∷ records) = row_of_fields fields ++ text_of_records records

-- a place and a run are printed by their names
abbrev pub place_name : NameLists → ℕ → List ℕ
place_name names place = slice_index_or names.places place []

abbrev pub run_name : NameLists → ℕ → List ℕ
run_name names run = slice_index_or names.runs run []
