-- The faults of a cut file, and which comes first.
use Rattle.std.specs.Prelude.{ℕ, ◌+◌, ◌==◌, nat_lt, Bool, false, not, ◌&&◌, ◌||◌, List, [], Option, Some, None, Result, Ok, Err, is_none, if◌then◌else◌}
use Rattle.std.specs.{Str.bytes_eq, Option.option_or}
use Rattle.csv_rows.specs.{declared.columns.Column.{Column, TheVariants.{Run, Step, From, To, Dep, Arr}}, Lists.{first_below, any_below}, Tables.index_of}
use Rattle.csv_rows.specs.Tables.{row_count}
use Rattle.cut_file.specs.declared.faults.CutFault.{CutFault, TheVariants.{MissingColumn, TooManyRows, BadField, DuplicateStep, Backward, Broken}}
use Rattle.cut_file.specs.CutRows.{Row, row_at}

abbrev pub column_fault : List (List (List ℕ)) → Column → Option CutFault
column_fault t column = if is_none (index_of column t) then Some (MissingColumn column) else None

-- the first required column that is not there
abbrev pub missing_column : List (List (List ℕ)) → Option CutFault
missing_column t = option_or (column_fault t Run) (option_or (column_fault t Step) (option_or (column_fault t From) (option_or (column_fault t To) (option_or (column_fault t Dep) (column_fault t Arr)))))

abbrev pub too_many_rows : List (List (List ℕ)) → ℕ → Option CutFault
too_many_rows t limit = if nat_lt limit (row_count t) then Some (TooManyRows (row_count t)) else None

abbrev pub bad_of : Result Row Column → ℕ → Option CutFault
bad_of (Ok r) line = None
bad_of (Err column) line = Some (BadField line column)

-- the first field of row i, whose line is i + 2, that is not of its form
unfoldable pub bad_field : List (List (List ℕ)) → ℕ → Option CutFault
bad_field t i = bad_of (row_at t i) (i + 2)

abbrev pub row_of : Result Row Column → Row
row_of (Ok r) = r
row_of (Err column) = record { run = []; step = 0; from = []; to = []; dep = 0; arr = 0; class = None; board = false; exit = false; change = None }

-- the row i of a table whose fields are of their forms
unfoldable pub row : List (List (List ℕ)) → ℕ → Row
row t i = row_of (row_at t i)

abbrev pub same_run : List (List (List ℕ)) → ℕ → ℕ → Bool
same_run t j i = bytes_eq (row t j).run (row t i).run

-- an earlier row has the run and step of row i
unfoldable pub repeated_step : List (List (List ℕ)) → ℕ → Option CutFault
repeated_step t i = if any_below (λ j. same_run t j i && ((row t j).step == (row t i).step)) i then Some (DuplicateStep (i + 2)) else None

-- row j comes before row i in its run
abbrev pub cut_precedes : List (List (List ℕ)) → ℕ → ℕ → Bool
cut_precedes t j i = same_run t j i && nat_lt (row t j).step (row t i).step

-- and no row of the run is between
abbrev pub cut_just_precedes : List (List (List ℕ)) → ℕ → ℕ → Bool
cut_just_precedes t j i = cut_precedes t j i && not (any_below (λ k. cut_precedes t j k && cut_precedes t k i) (row_count t))

-- it arrives before it departs, or departs before the row before it arrives
abbrev pub goes_back : List (List (List ℕ)) → ℕ → Bool
goes_back t i = nat_lt (row t i).arr (row t i).dep || any_below (λ j. cut_just_precedes t j i && nat_lt (row t i).dep (row t j).arr) (row_count t)

-- it does not begin where the row before it ends
abbrev pub is_broken : List (List (List ℕ)) → ℕ → Bool
is_broken t i = any_below (λ j. cut_just_precedes t j i && not (bytes_eq (row t i).from (row t j).to)) (row_count t)

-- the fault of row i after the row before it in its run
unfoldable pub run_fault : List (List (List ℕ)) → ℕ → Option CutFault
run_fault t i = if goes_back t i then Some (Backward (i + 2)) else if is_broken t i then Some (Broken (i + 2)) else None

-- the first of all faults
unfoldable pub first_cut_fault : List (List (List ℕ)) → ℕ → Option CutFault
first_cut_fault t limit =
    option_or (missing_column t) (option_or (too_many_rows t limit) (option_or (first_below (bad_field t) (row_count t))
    (option_or (first_below (repeated_step t) (row_count t)) (first_below (run_fault t) (row_count t)))))
