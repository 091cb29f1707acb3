-- A text that a run printed, saved beside the files of its journey.
use Rattle.std.specs.{Prelude.{◌≡◌, ℕ, ◌≤◌, List, [], ◌∷◌, ◌++◌, None, Some, IsSome, Contains, length}, Io.KnownBytes.Appends}
use Rattle.file_ports.specs.{Ports.FileMap, Steady.PutsFile}
use Rattle.csv.specs.Machine.{line_feed}
use Rattle.csv_rows.specs.declared.limits.Limits.{Limits}
use Rattle.interval_fixed.specs.Interval.{Interval}
use Rattle.command_line.specs.Jobs.{JourneyModel, Punctual}
use Rattle.journey_problem.specs.Paths.{AgreeFor, IsElsewhere}
use Rattle.journey_report.specs.AnswerTexts.{punctual_row}
use Rattle.run_laws.specs.{Runs.RunModel, TwoRuns.{AskOne, IsSaved}}

-- the run ended without a fault and wrote these bytes and then a text; the other files are as these, but hold that text at a path that is none of
-- the journey's
pub record IsSavedElsewhere (limits : Limits) (files others : FileMap) (j : JourneyModel) (path front : List ℕ) (r : RunModel) : Type 0 where
  pub text : List ℕ
  pub no_fault : r.report.fault ≡ None
  pub known : IsSome r.before.out.written
  pub written : Appends r.before.out.written r.after.out.written (front ++ text)
  pub elsewhere : IsElsewhere j path
  pub puts : PutsFile files others path text
  pub small : length text ≤ limits.bytes

-- so the text is saved, and the other files agree with these at the journey's paths
abbrev pub SavingKeeps : Limits → RunModel → Type 0
SavingKeeps limits r =
    (files others : FileMap) (j : JourneyModel) (path front : List ℕ) → IsSavedElsewhere limits files others j path front r
    → AgreeFor j files others × IsSaved limits others path front r

-- these bytes are a line, with its end
pub record IsOneLine (bytes : List ℕ) : Type 0 where
  pub line : List ℕ
  pub is : bytes ≡ line ++ line_feed ∷ []
  pub no_end : ¬ Contains line line_feed

-- the first line that `punctual` writes is the row of its chance
abbrev pub FirstLineIsItsRow : Limits → RunModel → Type 0
FirstLineIsItsRow limits r =
    (files others : FileMap) (j : JourneyModel) (alpha promise : ℕ) (path front : List ℕ) (chance : Interval)
    → AskOne files j (Punctual alpha promise) r → r.report.chance ≡ Some chance → IsOneLine front → IsSaved limits others path front r
    → front ≡ punctual_row promise chance
