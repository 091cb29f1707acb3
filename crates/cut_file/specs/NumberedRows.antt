-- The rows of a cut file by the numbers of their names.
use Rattle.std.specs.{Prelude.{◌≡◌, ℕ, zero, suc, List, [], ◌∷◌, ◌++◌, slice_get, Option, Some, None, is_some, is_none, if◌then◌else◌}, Option.option_or}
use Rattle.csv_rows.specs.{declared.columns.Column.{Column, TheVariants.{Class, Run, Step, From, To, Dep, Arr, Board, Exit, Change}}, Tables.number_in}
use Rattle.csv_rows.specs.Tables.{index_of}
use Rattle.cut_file.specs.{declared.{faults.CutFault.{CutFault, TheVariants.MissingColumn}, rows.{CutRow.CutRow, Columns.Columns}}, CutRows.Row, Faults.row}

-- a name goes last, unless it is there
unfoldable pub add_new : List (List ℕ) → List ℕ → List (List ℕ)
add_new names name = if is_some (number_in name names) then names else names ++ name ∷ []

-- the runs of the first n rows, in the order in which they first occur there
unfoldable pub run_names : List (List (List ℕ)) → ℕ → List (List ℕ)
run_names t zero = []
run_names t (suc n) = add_new (run_names t n) (row t n).run

-- and the places, `from` before `to`
unfoldable pub place_names : List (List (List ℕ)) → ℕ → List (List ℕ)
place_names t zero = []
place_names t (suc n) = add_new (add_new (place_names t n) (row t n).from) (row t n).to

-- a row with numbers for its names
pub record IsNumbered (runs places : List (List ℕ)) (r : Row) (c : CutRow) : Type 0 where
  pub run : slice_get runs c.run ≡ Some r.run
  pub from : slice_get places c.from ≡ Some r.from
  pub to : slice_get places c.to ≡ Some r.to
  pub step : c.step ≡ r.step
  pub dep : c.dep ≡ r.dep
  pub arr : c.arr ≡ r.arr
  pub class : c.class ≡ r.class
  pub board : c.board ≡ r.board
  pub exit : c.exit ≡ r.exit
  pub change : c.change ≡ r.change

-- the places of the columns
pub record AreCutColumns (t : List (List (List ℕ))) (c : Columns) : Type 0 where
  pub run : c.run ≡ index_of Run t
  pub step : c.step ≡ index_of Step t
  pub from : c.from ≡ index_of From t
  pub to : c.to ≡ index_of To t
  pub dep : c.dep ≡ index_of Dep t
  pub arr : c.arr ≡ index_of Arr t
  pub class : c.class ≡ index_of Class t
  pub board : c.board ≡ index_of Board t
  pub exit : c.exit ≡ index_of Exit t
  pub change : c.change ≡ index_of Change t

abbrev pub index_fault : Option ℕ → Column → Option CutFault
index_fault index column = if is_none index then Some (MissingColumn column) else None

abbrev pub missing_in : Columns → Option CutFault
missing_in c = option_or (index_fault c.run Run) (option_or (index_fault c.step Step) (option_or (index_fault c.from From) (option_or (index_fault c.to To) (option_or (index_fault c.dep Dep) (index_fault c.arr Arr)))))
