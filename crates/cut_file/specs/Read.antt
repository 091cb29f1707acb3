-- A cut file that is read, and one with no fault.
use Rattle.std.specs.Prelude.{◌≡◌, ℕ, ◌<◌, List, length, ◌≤◌, None}
use Rattle.csv_rows.specs.{Tables.row_count, declared.keys.Key.Key, Spaces.AreTrimmed}
use Rattle.cut_file.specs.{declared.rows.CutRow.CutRow, Faults.{row, first_cut_fault}, NumberedRows.{run_names, place_names, IsNumbered}, CutKeys.cut_row}
use Rattle.cut_file.specs.CutKeys.{AreCutKeys}
use Rattle.plan_model.specs.Bounds.{most_connections}

-- its names in the order in which they first occur, its rows with their numbers, and the order of the rows by run and step
pub record IsCutRead (t : List (List (List ℕ))) (runs places : List (List ℕ)) (rows : List CutRow) (keys : List Key) : Type 0 where
  pub run_names : runs ≡ run_names t (row_count t)
  pub place_names : places ≡ place_names t (row_count t)
  pub size : length rows ≡ row_count t
  pub each : (k : ℕ) → k < row_count t → IsNumbered runs places (row t k) (cut_row rows k)
  pub key_count : length keys ≡ length rows
  pub sorted : AreCutKeys rows keys

-- the parts of a cut file
pub record Cut : Type 0 where
  pub runs : List (List ℕ)
  pub places : List (List ℕ)
  pub rows : List CutRow
  pub keys : List Key

-- it was read from a table of trimmed fields with no fault
pub record IsFaultless (c : Cut) : Type 0 where
  pub table : List (List (List ℕ))
  pub limit : ℕ
  pub few : limit ≤ most_connections
  pub trimmed : AreTrimmed table
  pub none : first_cut_fault table limit ≡ None
  pub read : IsCutRead table c.runs c.places c.rows c.keys
