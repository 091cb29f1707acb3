-- A run by its steps.
use Rattle.meat_engine.proofs.Common.{◌≡◌, ◌<◌, ℕ, arith, List, Option, Some, None, Ok, ◌≢◌, IsSome, Keeps, Rose, RoseAt, FilesState, Limits, JobModel, job_of, Input, Fault, Read, Write}
use Rattle.meat_engine.proofs.Common.{NoMemory, status_of, line_of, NamedParts, Report, Findings, findings_of, no_findings, AnswersJob, IsExplained, IsRefusedWith, IsWritten, Outcome, path_in}
use Rattle.meat_engine.proofs.{Outcomes.{keeps_same, refused_outcome, answered_outcome, refused_some, refused_is, refused_read}, Statuses.complete, Undisturbed.one_job}
use Rattle.meat_engine.specs.RunPromises.{SinkState, WritesLine, IsRun}
use Rattle.std.proofs.lemmas.Option.{same_Some}

-- what a run that is refused promises
module _ (limits : Limits) (words : List (List ℕ)) (report : Report) (before after : FilesState) (out err err_after : SinkState)
    (known : Option NamedParts) (wanted : Fault) (reported : IsRefusedWith err.written err_after.written err.faults err_after.faults known wanted report.fault) where
  wanted_is : (fault : Fault) → report.fault ≡ Some fault → fault ≢ NoMemory → wanted ≡ fault
  wanted_is fault is other = grind (arith, refused_is)

  wanted_read : (input : Input) → report.fault ≡ Some (Read input) → wanted ≡ Read input
  wanted_read input is = wanted_is (Read input) is (λ (same : Read input ≡ NoMemory). cc)

  pub refused_run : report.status.0 ≡ status_of report.fault → findings_of report ≡ no_findings
      → IsExplained before.files limits words known wanted → wanted ≢ Write → after.files ≡ before.files
      → ((input : Input) → wanted ≡ Read input → Rose before.faults after.faults)
      → ((job : JobModel) (input : Input) → job_of words ≡ Ok job → IsSome before.files → wanted ≡ Read input
      → RoseAt (path_in job input) before.faults_of after.faults_of)
      → (before.faults < after.faults → (input : Input) × (wanted ≡ Read input))
      → IsRun limits words report before after out out err err_after
  refused_run status findings cause other same read read_path grew =
      let ended : Outcome before.files limits words report out.written out.written (WritesLine err err_after) report.fault =
      refused_outcome before.files limits words report out.written out.written err.written err_after.written err.faults err_after.faults
      known wanted report.fault findings (keeps_same out.written) cause other reported in
      let unread : (input : Input) → report.fault ≡ Some (Read input) → Rose before.faults after.faults
      = λ input is. read input (wanted_read input is) in
      let unwritten : report.fault ≡ Some Write → Rose out.faults out.faults
      = λ is. absurd (other (wanted_is Write is (λ (none : Write ≡ NoMemory). cc))) in
      record {
        status = status;
        outcome = ended;
        quiet = λ none. absurd (refused_some err.written err_after.written err.faults err_after.faults known wanted report.fault reported none);
        same = same;
        read = unread;
        read_path = λ job input is some unread. read_path job input is some (wanted_read input unread);
        files_grew = λ less. grind (arith, refused_read);
        write = unwritten;
        out_grew = λ less. absurd (omega (arith, less));
        complete = λ files_calm out_calm.
            complete before.files limits words report out.written out.written (WritesLine err err_after) report.fault report.status.0
            ended status ((λ input is. files_calm (unread input is)), (λ is. out_calm (unwritten is)));
      }

-- where a text was written, wholly or not, the fault is at most that it was not
written_fault : (old new : Option (List ℕ)) (text : List ℕ) (found : Option Fault) (fault : Fault) → IsWritten old new text found → found ≡ Some fault → fault ≡ Write
written_fault old new text found fault written is = grind (arith, same_Some)

-- what a run that is answered promises
module _ (limits : Limits) (words : List (List ℕ)) (answer : Findings) (report : Report) (text : List ℕ) (before after : FilesState) (out out_after err err_after : SinkState)
    (written : IsWritten out.written out_after.written text report.fault) where
  never_read : (input : Input) → report.fault ≡ Some (Read input) → ⊥
  never_read input is = let same : Read input ≡ Write = written_fault out.written out_after.written text report.fault (Read input) written is in cc

  pub answered_run : (job : JobModel) → job_of words ≡ Ok job → AnswersJob before.files limits job answer text
      → report.status.0 ≡ status_of report.fault → findings_of report ≡ answer
      → (report.fault ≡ None → Keeps err.written err_after.written)
      → ((known : Option NamedParts) → report.fault ≡ Some Write → WritesLine err err_after (line_of known Write))
      → after.files ≡ before.files → (before.faults < after.faults → ⊥)
      → (report.fault ≡ Some Write → Rose out.faults out_after.faults)
      → (out.faults < out_after.faults → report.fault ≡ Some Write)
      → IsRun limits words report before after out out_after err err_after
  answered_run job is answers status findings quiet reports same calm write grew =
      let ended : Outcome before.files limits words report out.written out_after.written (WritesLine err err_after) report.fault =
      answered_outcome before.files limits words job answer report text out.written out_after.written (WritesLine err err_after) report.fault
      is findings answers written reports in
      record {
        status = status;
        outcome = ended;
        quiet = quiet;
        same = same;
        read = λ input unread. absurd (never_read input unread);
        read_path = λ other input asked some unread. absurd (never_read input unread);
        files_grew = λ less. absurd (calm less);
        write = write;
        out_grew = grew;
        complete = λ files_calm out_calm.
            complete before.files limits words report out.written out_after.written (WritesLine err err_after) report.fault report.status.0
            ended status ((λ input unread. never_read input unread), (λ unwritten. out_calm (write unwritten)));
      }

-- the words ask for one job
pub path_of_job : (words : List (List ℕ)) (job other : JobModel) (before after : List ℕ → ℕ) (input : Input) → job_of words ≡ Ok job → job_of words ≡ Ok other
    → RoseAt (path_in other input) before after → RoseAt (path_in job input) before after
path_of_job words job other before after input is asked rose = grind (arith, one_job)
