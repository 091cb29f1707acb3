-- A run: its words, its report, and its host before it and after it.
use Rattle.std.specs.{Prelude.{◌≡◌, ℕ, List, Option, Some, Ok}, Io.KnownBytes.Appends}
use Rattle.file_ports.specs.{Counts.Rose, Ports.{FileMap, FilesState}}
use Rattle.csv_rows.specs.declared.limits.Limits.{Limits}
use Rattle.command_line.specs.Jobs.{JobModel, job_of}
use Rattle.journey_problem.specs.Files.{AgreeAt, ReadAlikeAt}
use Rattle.journey_report.specs.declared.report.Report.{Report}
use Rattle.meat_engine.specs.{Received.path_in, RunPromises.{IsRun, SinkState, sink_state}}

-- the files of a host, its output and its stream of errors
pub record HostState : Type 0 where
  pub files : FilesState
  pub out : SinkState
  pub err : SinkState

-- of what the streams received and how often they failed
abbrev pub host_state : FilesState → (out : Option (List ℕ)) → ℕ → (err : Option (List ℕ)) → ℕ → HostState
host_state files out out_faults err err_faults = record { files = files; out = sink_state out out_faults; err = sink_state err err_faults }

-- a run: its words, its report, and the host before it and after it
pub record RunModel : Type 0 where
  pub words : List (List ℕ)
  pub report : Report
  pub before : HostState
  pub after : HostState

abbrev pub run_of : List (List ℕ) → Report → HostState → HostState → RunModel
run_of words report before after = record { words = words; report = report; before = before; after = after }

-- what is promised of it
abbrev pub IsRunWithin : Limits → RunModel → Type 0
IsRunWithin limits r = IsRun limits r.words r.report r.before.files r.after.files r.before.out r.after.out r.before.err r.after.err

-- the files hold these bytes, and nothing failed in the run
pub record IsUntroubled (files : FileMap) (r : RunModel) : Type 0 where
  pub reports : r.before.files.files ≡ Some files
  pub files_calm : ¬ Rose r.before.files.faults r.after.files.faults
  pub out_calm : ¬ Rose r.before.out.faults r.after.out.faults
  pub err_calm : ¬ Rose r.before.err.faults r.after.err.faults

-- the files agree at each path that is read for what the words ask
abbrev pub AgreeOn : List (List ℕ) → FileMap → FileMap → Type 0
AgreeOn words files others = (wanted : JobModel) → job_of words ≡ Ok wanted → AgreeAt (path_in wanted) files others

-- or have the same records there, in whatever form, and are not too long
abbrev pub ReadAlikeOn : Limits → List (List ℕ) → FileMap → FileMap → Type 0
ReadAlikeOn limits words files others = (wanted : JobModel) → job_of words ≡ Ok wanted → ReadAlikeAt limits.bytes (path_in wanted) files others

-- over two runs two streams received the same, whatever they had received before
abbrev pub ReceiveAlike : (before after : SinkState) → (other_before other_after : SinkState) → Type 0
ReceiveAlike before after other_before other_after =
    (text : List ℕ) × Appends before.written after.written text × Appends other_before.written other_after.written text
