-- What a run promises, once for all its limits.
use Rattle.std.specs.{Prelude.{◌≡◌, ℕ, ◌<◌, List, Option, None, Some, Ok, IsSome}, Io.KnownBytes.Keeps}
use Rattle.file_ports.specs.{Counts.{Rose, RoseAt}, Ports.FilesState}
use Rattle.csv_rows.specs.declared.limits.Limits.{Limits}
use Rattle.command_line.specs.Jobs.{JobModel, job_of}
use Rattle.journey_model.specs.{declared.faults.{Input.Input, Fault.TheVariants.{Read, Write}}, Faults.status_of}
use Rattle.journey_report.specs.declared.report.Report.{Report}
use Rattle.meat_engine.specs.{Received.{Outcome, IsLineWritten, path_in}, Completeness.IsComplete}

-- what a sink received, if that is known; and how often it failed
pub record SinkState : Type 0 where
  pub written : Option (List ℕ)
  pub faults : ℕ

abbrev pub sink_state : Option (List ℕ) → ℕ → SinkState
sink_state written faults = record { written = written; faults = faults }

-- a front of a line was received by the sink of faults, the whole of it if its count did not rise
abbrev pub WritesLine : SinkState → SinkState → List ℕ → Type 0
WritesLine old new = IsLineWritten old.written new.written old.faults new.faults

-- a run of these words within these limits gives this report, over files in these states before it and after it, with a sink
-- for the answer and one for the fault in such states
pub record IsRun (limits : Limits) (words : List (List ℕ)) (report : Report) (before after : FilesState) (out out_after err err_after : SinkState) : Type 0 where
  -- the status is that of the fault, and the fault is that of the run
  pub status : report.status.0 ≡ status_of report.fault
  pub outcome : Outcome before.files limits words report out.written out_after.written (WritesLine err err_after) report.fault
  -- if there is no fault no line of one is written
  pub quiet : report.fault ≡ None → Keeps err.written err_after.written
  pub same : after.files ≡ before.files
  -- a file is reported as unreadable only if the files failed, and, if it is one of the job's and their bytes are known, only
  -- if its own path failed too; and always if the files failed
  pub read : (input : Input) → report.fault ≡ Some (Read input) → Rose before.faults after.faults
  pub read_path : (wanted : JobModel) (input : Input) → job_of words ≡ Ok wanted → IsSome before.files
      → report.fault ≡ Some (Read input) → RoseAt (path_in wanted input) before.faults_of after.faults_of
  pub files_grew : before.faults < after.faults → (input : Input) × (report.fault ≡ Some (Read input))
  -- the answer cannot be written only if its sink failed, and always if it did
  pub write : report.fault ≡ Some Write → Rose out.faults out_after.faults
  pub out_grew : out.faults < out_after.faults → report.fault ≡ Some Write
  -- the status, if neither failed and the files have no fault
  pub complete : ¬ Rose before.faults after.faults → ¬ Rose out.faults out_after.faults
      → IsComplete before.files limits words report.status.0
