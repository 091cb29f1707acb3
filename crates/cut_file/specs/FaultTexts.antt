-- The texts of the faults of a cut file.
use Rattle.std.specs.Prelude.{ℕ, List, ◌++◌, codes}
use Rattle.csv_rows.specs.{Columns.name_of, FaultTexts.{at_line, too_many_rows}}
use Rattle.cut_file.specs.declared.faults.CutFault.{CutFault, TheVariants.{MissingColumn, TooManyRows, BadField, DuplicateStep, Backward, Broken, NoMemory}}

-- the text of a fault of a cut file
abbrev pub cut_fault_text : CutFault → List ℕ
cut_fault_text (MissingColumn column) = codes "cut file has no column " ++ name_of column
cut_fault_text (TooManyRows count) = too_many_rows (codes "cut file") count
cut_fault_text (BadField line column) = at_line (codes "cut file") line (codes "bad " ++ name_of column)
cut_fault_text (DuplicateStep line) = at_line (codes "cut file") line (codes "repeated step")
cut_fault_text (Backward line) = at_line (codes "cut file") line (codes "time goes back")
cut_fault_text (Broken line) = at_line (codes "cut file") line (codes "run is broken")
cut_fault_text NoMemory = codes "out of memory"
