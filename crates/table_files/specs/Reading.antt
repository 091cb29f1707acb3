-- What reading tables of a folder gives.
use Rattle.std.specs.Prelude.{◌≡◌, ◌≢◌, List, ℕ, Option, None, Result, Err, MatchResult, IfErr, IfSome}
use Rattle.file_ports.specs.Ports.{FileMap, FilesState}
use Rattle.csv_rows.specs.{declared.{feed_tables.{Table.Table, FeedFault.{FeedFault, TheVariants.NoMemory}}, limits.Limits.Limits}, FeedTables.unread_table}
use Rattle.csv_rows.specs.FeedTables.{IsFaultOf}
use Rattle.table_files.specs.{declared.loading.Loaded.Loaded, Loading.{load_in, HasFeedCauses}}

-- If the files are known, a value holds of them, and a fault is the first one, or there is no memory. Whatever they are, a fault is
-- one of the reader's own, and comes from its causes.
pub record Reads {T : Type 0} (folder : List ℕ) (before now : FilesState) (Holds : FileMap → T → Type 0) (IsFirst : FileMap → FeedFault → Type 0) (IsOwn : FeedFault → Type 0)
    (result : Result T FeedFault) : Type 0 where
  pub found : IfSome before.files (λ m. MatchResult result (Holds m) (λ f. f ≢ NoMemory → IsFirst m f))
  pub own : IfErr result IsOwn
  pub causes : HasFeedCauses folder before now result

-- by what is wanted of the files, if at most one table is unread
abbrev pub ReadsWanted : {T D : Type 0} → List ℕ → (before now : FilesState) → (FileMap → Option Table → Result D FeedFault) → (Result D FeedFault → T → Type 0) → (FeedFault → Type 0)
    → Result T FeedFault → Type 0
ReadsWanted folder before now wanted Has IsOwn result =
    Reads folder before now (λ m. Has (wanted m None)) (λ m f. wanted m (unread_table f) ≡ Err f) IsOwn result

-- by what is wanted of one table, from what is loaded of it
abbrev pub ReadsTable : {T D : Type 0} → Table → List ℕ → Limits → (before now : FilesState) → (Result Loaded FeedFault → Result D FeedFault) → (Result D FeedFault → T → Type 0)
    → Result T FeedFault → Type 0
ReadsTable table folder limits before now wanted Has result =
    ReadsWanted folder before now (λ m unread. wanted (load_in m folder limits unread table)) Has (IsFaultOf table) result
