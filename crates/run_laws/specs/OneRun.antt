-- That words have one answer over files with known bytes.
use Rattle.std.specs.Prelude.{◌≡◌, ℕ, List, ◌≢◌, None, Some}
use Rattle.journey_report.specs.Findings.{Findings, findings_of}
use Rattle.file_ports.specs.Ports.{FileMap}
use Rattle.csv_rows.specs.declared.limits.Limits.{Limits}
use Rattle.journey_model.specs.declared.faults.Fault.TheVariants.{NoMemory}
use Rattle.run_laws.specs.Runs.{RunModel, IsRunWithin, IsUntroubled, AgreeOn, ReadAlikeOn, ReceiveAlike}

-- they have the same findings and the same text
pub record IsOneAnswer (first second : Findings) (text other : List ℕ) : Type 0 where
  pub found : first ≡ second
  pub text_is : text ≡ other

-- they end with one status, one fault and one report, and both streams received the same in both
pub record IsOneEnd (r s : RunModel) : Type 0 where
  pub fault : r.report.fault ≡ s.report.fault
  pub status : r.report.status.0 ≡ s.report.status.0
  pub findings : findings_of r.report ≡ findings_of s.report
  pub out : ReceiveAlike r.before.out r.after.out s.before.out s.after.out
  pub err : ReceiveAlike r.before.err r.after.err s.before.err s.after.err

-- where this holds of the files, the same words have one end, with an answer or with a fault, unless there was no memory
abbrev pub EndAlikeOver : (FileMap → FileMap → Type 0) → RunModel → RunModel → Type 0
EndAlikeOver Same r s =
    (files others : FileMap) → IsUntroubled files r → IsUntroubled others s → r.words ≡ s.words → Same files others
    → r.report.fault ≢ Some NoMemory → s.report.fault ≢ Some NoMemory → IsOneEnd r s

-- so it is over files that agree at the paths that the words name
abbrev pub EndAlike : RunModel → RunModel → Type 0
EndAlike r s = EndAlikeOver (AgreeOn r.words) r s

-- and over files that have the same records there
abbrev pub FormsEndAlike : Limits → RunModel → RunModel → Type 0
FormsEndAlike limits r s = EndAlikeOver (ReadAlikeOn limits r.words) r s

abbrev pub HasOneEnd : Type 0
HasOneEnd = (limits : Limits) (r s : RunModel) → IsRunWithin limits r → IsRunWithin limits s → EndAlike r s

-- a run over files with these bytes that ends without a fault
pub record EndsWell (files : FileMap) (r : RunModel) : Type 0 where
  pub reports : r.before.files.files ≡ Some files
  pub no_fault : r.report.fault ≡ None

-- two such runs of the same words report the same, and write the same, whatever fails
abbrev pub HasOneRun : Type 0
HasOneRun =
    (limits : Limits) (files others : FileMap) (r s : RunModel) → IsRunWithin limits r → IsRunWithin limits s → EndsWell files r → EndsWell others s
    → r.words ≡ s.words → AgreeOn r.words files others
    → (findings_of r.report ≡ findings_of s.report) × ReceiveAlike r.before.out r.after.out s.before.out s.after.out
