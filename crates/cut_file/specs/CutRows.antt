-- The rows of a cut file, and the forms of their fields.
use Rattle.std.specs.Prelude.{ℕ, ◌==◌, nat_lt, Bool, true, false, ◌||◌, List, length, Option, Some, None, option_map, if◌then◌else◌, codes, Result, Ok, Err}
use Rattle.std.specs.Str.{bytes_eq}
use Rattle.clock_text.specs.{Digits.{whole_of, optional_seconds_of}, Times.moment_at}
use Rattle.plan_model.specs.{Bounds.end_of_arrivals, Results.require}
use Rattle.cut_file.specs.declared.{fields.TheConstants.LAST_TYPE, lines.{TheConstants.MOST_STEP, Fields.Fields, NamedRow.NamedRow}}
use Rattle.csv_rows.specs.{declared.columns.Column.{Column, TheVariants.{Class, Run, Step, From, To, Dep, Arr, Board, Exit, Change}}, Tables.field, Ids.name_in}

abbrev pub before_end : Option ℕ → Option ℕ
before_end None = None
before_end (Some m) = if nat_lt m end_of_arrivals then Some m else None

-- a moment before 2401-01-01
abbrev pub moment_before_end : List ℕ → Option ℕ
moment_before_end text = before_end (moment_at text)

-- a route type, and none for `*`, also for an empty field
abbrev pub class_in : List ℕ → Option (Option ℕ)
class_in text = if length text == 0 || bytes_eq text (codes "*") then Some None else option_map Some (whole_of LAST_TYPE text)

-- 0 or 1, and 1 for an empty field
abbrev pub flag_in : List ℕ → Option Bool
flag_in text = if length text == 0 || bytes_eq text (codes "1") then Some true else if bytes_eq text (codes "0") then Some false else None

-- a row with its names; the class is a route type, and none for `*`
pub record Row : Type 0 where
  pub run : List ℕ
  pub step : ℕ
  pub from : List ℕ
  pub to : List ℕ
  pub dep : ℕ
  pub arr : ℕ
  pub class : Option ℕ
  pub board : Bool
  pub exit : Bool
  pub change : Option ℕ

-- the row of these fields, or the first column that is not of its form
abbrev pub row_from : (run step from to dep arr class board exit change : List ℕ) → Result Row Column
row_from run step from to dep arr class board exit change =
    require (name_in run) Run (λ run'.
    require (whole_of MOST_STEP step) Step (λ step'.
    require (name_in from) From (λ from'.
    require (name_in to) To (λ to'.
    require (moment_before_end dep) Dep (λ dep'.
    require (moment_before_end arr) Arr (λ arr'.
    require (class_in class) Class (λ class'.
    require (flag_in board) Board (λ board'.
    require (flag_in exit) Exit (λ exit'.
    require (optional_seconds_of change) Change (λ change'.
    Ok (record { run = run'; step = step'; from = from'; to = to'; dep = dep'; arr = arr'; class = class'; board = board'; exit = exit'; change = change' })))))))))))

-- the same fields, as the program has them
abbrev pub row_of_fields : Fields → Result Row Column
row_of_fields f =
    row_from f.run.now f.step.now f.from.now f.to.now f.dep.now f.arr.now f.class.now f.board.now f.exit.now f.change.now

-- a row, as the program has it
abbrev pub named : NamedRow → Row
named r = record {
  run = r.run.now;
  step = r.step;
  from = r.from.now;
  to = r.to.now;
  dep = r.dep;
  arr = r.arr;
  class = r.class;
  board = r.board;
  exit = r.exit;
  change = r.change;
}

-- what was read, a row or a column
abbrev pub as_read : Result NamedRow Column → Result Row Column
as_read (Ok r) = Ok (named r)
as_read (Err column) = Err column

-- the row i of the table
unfoldable pub row_at : List (List (List ℕ)) → ℕ → Result Row Column
row_at t i =
    row_from (field t Run i) (field t Step i) (field t From i) (field t To i) (field t Dep i) (field t Arr i)
    (field t Class i) (field t Board i) (field t Exit i) (field t Change i)
