-- The rows in the order of run and step, and what shows there.
use Rattle.std.specs.Prelude.{ℕ, ◌+◌, ◌==◌, nat_lt, true, false, List, length, slice_index_or, Option, Some, None, if◌then◌else◌}
use Rattle.csv_rows.specs.{declared.keys.Key.Key, Keys.AreSorted}
use Rattle.cut_file.specs.declared.{rows.CutRow.CutRow, faults.CutFault.{CutFault, TheVariants.{Backward, Broken}}}

abbrev pub no_row : CutRow
no_row = record { run = 0; step = 0; from = 0; to = 0; dep = 0; arr = 0; class = None; board = false; exit = false; change = None }

abbrev pub cut_row : List CutRow → ℕ → CutRow
cut_row rows i = slice_index_or rows i no_row

abbrev pub run_of : List CutRow → ℕ → ℕ
run_of rows i = (cut_row rows i).run

abbrev pub step_of : List CutRow → ℕ → ℕ
step_of rows i = (cut_row rows i).step

-- the keys of all rows, in the order of run, step and place in the file
abbrev pub AreCutKeys : List CutRow → List Key → Type 0
AreCutKeys rows keys = AreSorted (λ i. true) (run_of rows) (step_of rows) (length rows) keys

-- the fault of a row after the row before it in its run
abbrev pub misfit : CutRow → CutRow → ℕ → Option CutFault
misfit row last line = if nat_lt row.dep last.arr then Some (Backward line) else if row.from == last.to then None else Some (Broken line)

abbrev pub misfit_of : List CutRow → CutRow → Option Key → ℕ → Option CutFault
misfit_of rows row None line = None
misfit_of rows row (Some before) line = misfit row (cut_row rows before.row) line

-- the same, if there is a row before it; or that it arrives before it departs
abbrev pub fault_after : List CutRow → Option Key → ℕ → Option CutFault
fault_after rows before i = if nat_lt (cut_row rows i).arr (cut_row rows i).dep then Some (Backward (i + 2)) else misfit_of rows (cut_row rows i) before (i + 2)
