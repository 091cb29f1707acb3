-- Two runs that nothing disturbs end in one way.
use Rattle.run_laws.proofs.Common.{arith, ◌≡◌, ◌≢◌, ℕ, ◌⊎◌, List, [], Option, None, Some, Ok, Err, inl, inr, refl, sym, subst, ap, ◌∙◌, Appends, Keeps, FileMap, file_at, Limits, JobModel, Ask}
use Rattle.run_laws.proofs.Common.{Sample, JourneyModel, AskModel, Plan, job_of, Fault, Write, NoMemory, Problem, status_of, NamedParts, HasOneProblem, no_fault, agree_all, Findings, findings_of}
use Rattle.run_laws.proofs.Common.{no_findings, FailsJourney, AnswersJob, AnswersWords, FailsJob, IsExplained, IsRefused, WritesLine, sample_journey, sample_alpha, RunModel, IsRunWithin}
use Rattle.run_laws.proofs.{Common.{IsUntroubled, IsOneEnd, EndAlike}, Asks.{one_answer, outcome_of}, AskFaults.{one_ask_fault, answered_or_not}, FirstFaults.{NotRead, one_first_fault}}
use Rattle.run_laws.proofs.{Framed.{CarriesWords, carried_bytes, carried_records, by_bytes, journey_fails, framed_answer, framed_cause}, Queries.not_none}
use Rattle.run_laws.specs.{OneRun.{EndAlikeOver, FormsEndAlike}, Runs.{AgreeOn, ReadAlikeOn}}
use Rattle.std.proofs.Common.{append-nil}
use Rattle.command_line.specs.{declared.job.WordsFault.WordsFault, Jobs.SourceModel}
use Rattle.journey_model.specs.{Known.parts_of, FaultLines.line_of}
use Rattle.journey_problem.specs.FaultsBeforeSearch.{IsBeforeSearch}
use Rattle.journey_problem.proofs.OneProblem.{one_problem}
use Rattle.meat_engine.specs.Received.{Outcome}

-- a fault that comes before the search is at no site, so its line is one whatever timetable is known
line_before : (known other : Option NamedParts) (timetable : SourceModel) (fault : Fault) → IsBeforeSearch timetable fault → line_of known fault ≡ line_of other fault
line_before known other timetable fault before = grind arith

-- the two faults are one, with one line
pub record IsOneFault (known other : Option NamedParts) (a b : Fault) : Type 0 where
  pub same : a ≡ b
  pub line : line_of known a ≡ line_of other b

with_line : (known other : Option NamedParts) (a b : Fault) → a ≡ b → line_of known a ≡ line_of other a → IsOneFault known other a b
with_line known other a b same line = record { same = same; line = line ∙ ap (line_of other) same }

one_known : (p q : Problem) (known other : Option NamedParts) → known ≡ Some (parts_of p) → other ≡ Some (parts_of q) → p ≡ q → known ≡ other
one_known p q known other is also same = is ∙ ap (λ (r : Problem). Some (parts_of r)) same ∙ sym also

pub one_job : (words : List (List ℕ)) (a b : JobModel) → job_of words ≡ Ok a → job_of words ≡ Ok b → a ≡ b
one_job words a b is also = cc

one_refusal : (words : List (List ℕ)) (a b : WordsFault) → job_of words ≡ Err a → job_of words ≡ Err b → a ≡ b
one_refusal words a b is also = cc

pub refused_or_not : (words : List (List ℕ)) (refusal : WordsFault) (job : JobModel) → job_of words ≡ Err refusal → job_of words ≡ Ok job → ⊥
refused_or_not words refusal job is also = absurd (cc)

-- the fault is neither that a file cannot be read, nor that there was no memory
pub record IsCalm (fault : Fault) : Type 0 where
  pub read : NotRead fault
  pub memory : fault ≢ NoMemory

module _ (limits : Limits) (files : FileMap) where
  abbrev Fails : JourneyModel → AskModel → Option NamedParts → Fault → Type 0
  Fails j a known fault = FailsJourney (Some files) limits j a known fault

  pub one_journey_fault : (j : JourneyModel) (ask : AskModel) (known other : Option NamedParts) (a b : Fault) → IsCalm a → IsCalm b → Fails j ask known a → Fails j ask other b → IsOneFault known other a b
  one_journey_fault j ask known other a b m n h is = grind (arith, one_problem, one_ask_fault, with_line, one_known, no_fault, one_first_fault, line_before)

  -- what is refused over a made timetable is so over other files with the same bytes
  made_fault : (other : FileMap) (known : Option NamedParts) (fault : Fault) → ((path : List ℕ) → file_at other path ≡ file_at files path)
      → FailsJourney (Some other) limits sample_journey (Plan sample_alpha) known fault → Fails sample_journey (Plan sample_alpha) known fault
  made_fault other known fault same is = journey_fails limits files other sample_journey (Plan sample_alpha) known fault (by_bytes limits files other (Ask sample_journey (Plan sample_alpha)) (agree_all _ other files same)) is

module _ (limits : Limits) (files : FileMap) where
  one_job_fault : (job : JobModel) (known other : Option NamedParts) (a b : Fault) → IsCalm a → IsCalm b → FailsJob (Some files) limits job known a → FailsJob (Some files) limits job other b
      → IsOneFault known other a b
  one_job_fault (Ask j ask) known other a b m n fails misses = one_journey_fault limits files j ask known other a b m n fails misses
  one_job_fault (Sample size) known other a b m n (read, (folder, same, fails)) (reads, (made, alike, misses)) =
      one_journey_fault limits folder sample_journey (Plan sample_alpha) known other a b m n fails
      (made_fault limits folder made other b (λ path. alike path ∙ sym (same path)) misses)

  -- what is explained is one fault
  one_cause : (words : List (List ℕ)) (known other : Option NamedParts) (a b : Fault) → IsCalm a → IsCalm b → IsExplained (Some files) limits words known a
      → IsExplained (Some files) limits words other b → IsOneFault known other a b
  one_cause words known other a b m n (inl none) also = absurd (m.memory none)
  one_cause words known other a b m n (inr is) (inl none) = absurd (n.memory none)
  one_cause words known other a b m n (inr (inl (refusal, is, from))) h = grind (arith, one_refusal, with_line, refused_or_not)
  one_cause words known other a b m n (inr (inr (job, from, fails))) (inr (inl (second, also, of))) = absurd (refused_or_not words second job of from)
  one_cause words known other a b m n (inr (inr (job, from, fails))) (inr (inr (second, of, misses))) = grind (arith, one_job_fault job known other a b m n fails, one_job words second job of from)

  -- ---- an answer excludes a fault

  pub journey_answered : (j : JourneyModel) (ask : AskModel) (found : Findings) (text : List ℕ) (known : Option NamedParts) (a : Fault) → IsCalm a
      → AnswersJob (Some files) limits (Ask j ask) found text → FailsJourney (Some files) limits j ask known a → ⊥
  journey_answered j ask found text known a m h is = grind (arith, answered_or_not, one_problem, no_fault)

  pub job_answered : (job : JobModel) (found : Findings) (text : List ℕ) (known : Option NamedParts) (a : Fault) → IsCalm a → AnswersJob (Some files) limits job found text
      → FailsJob (Some files) limits job known a → ⊥
  job_answered (Ask j ask) found text known a m answers fails = journey_answered j ask found text known a m answers fails
  job_answered (Sample size) found text known a m (folder, same, (p, has, is, (q, w, asked, reports))) (read, (made, alike, fails)) =
      sampled (made_fault limits folder made known a (λ path. alike path ∙ sym (same path)) fails)
    where
      sampled : FailsJourney (Some folder) limits sample_journey (Plan sample_alpha) known a → ⊥
      sampled (inl (r, sound, also, (called, none))) =
          let one = one_problem limits folder sample_journey r p also is in
          grind (arith, not_none)
      sampled (inr early) = no_fault limits folder sample_journey p a is m.read m.memory early.1

  answered_or_refused : (words : List (List ℕ)) (found : Findings) (text : List ℕ) (known : Option NamedParts) (a : Fault) → IsCalm a → AnswersWords (Some files) limits words found text
      → IsExplained (Some files) limits words known a → ⊥
  answered_or_refused words found text known a m answers (inl none) = m.memory none
  answered_or_refused words found text known a m (job, is, answers) (inr (inl (refusal, also, from))) = refused_or_not words refusal job from is
  answered_or_refused words found text known a m (job, is, answers) (inr (inr (other, from, fails))) = grind (arith, job_answered job found text known a m answers, one_job words other job from is)

-- nothing more is no byte more
pub keeps_none : (old new : Option (List ℕ)) → Keeps old new → Appends old new []
keeps_none old new kept = grind (arith, append-nil)

-- ---- how a run ends that nothing disturbs

module _ (limits : Limits) (files : FileMap) (r : RunModel) where
  -- with an answer
  pub record Answers : Type 0 where
    pub none : r.report.fault ≡ None
    pub text : List ℕ
    pub answers : AnswersWords (Some files) limits r.words (findings_of r.report) text
    pub out : Appends r.before.out.written r.after.out.written text
    pub err : Keeps r.before.err.written r.after.err.written

  -- or with a fault
  pub record Refuses : Type 0 where
    pub fault : Fault
    pub some : r.report.fault ≡ Some fault
    pub calm : IsCalm fault
    pub findings : findings_of r.report ≡ no_findings
    pub known : Option NamedParts
    pub why : IsExplained (Some files) limits r.words known fault
    pub out : Keeps r.before.out.written r.after.out.written
    pub err : Appends r.before.err.written r.after.err.written (line_of known fault)

  module _ (run : IsRunWithin limits r) (calm : IsUntroubled files r) (memory : r.report.fault ≢ Some NoMemory) where
    abbrev Reports : List ℕ → Type 0
    Reports = WritesLine r.before.err r.after.err

    outcome : (fault : Option Fault) → r.report.fault ≡ fault → Outcome (Some files) limits r.words r.report r.before.out.written r.after.out.written Reports fault
    outcome fault is = subst (λ (f : Option Fault). Outcome (Some files) limits r.words r.report r.before.out.written r.after.out.written Reports f) is (outcome_of limits files r run calm.reports)

    reports_err : (text : List ℕ) → Reports text → Appends r.before.err.written r.after.err.written text
    reports_err text reports = reports.1 calm.err_calm

    calm_fault : (fault : Fault) → r.report.fault ≡ Some fault → IsCalm fault
    calm_fault fault is = grind arith

    not_write : (fault : Fault) → r.report.fault ≡ Some fault → fault ≢ Write
    not_write fault is write = calm.out_calm (run.write (is ∙ ap (λ (f : Fault). Some f) write))

    pub settled : (fault : Option Fault) → r.report.fault ≡ fault → Answers ⊎ Refuses
    settled None is = grind (arith, outcome)
    settled (Some fault) is =
        let both = (outcome (Some fault) is).refused fault refl (not_write fault is) in
        let refused : IsRefused (Some files) limits r.words r.report Reports fault = both.1 in grind (arith, calm_fault, reports_err)

-- over files of which this carries over what the words ask
ends_over : HasOneProblem → (limits : Limits) (Same : FileMap → FileMap → Type 0) (r s : RunModel) → ((files others : FileMap) → Same files others → CarriesWords limits files others r.words)
    → IsRunWithin limits r → IsRunWithin limits s → EndAlikeOver Same r s
ends_over by limits Same r s carried run also files others calm other_calm words agree memory other_memory =
    ends (settled limits files r run calm memory r.report.fault refl) (settled limits others s also other_calm other_memory s.report.fault refl)
  where
    carries : CarriesWords limits files others r.words
    carries = carried files others agree

    -- what explains the second also does over the files of the first
    why : (b : Refuses limits others s) → IsExplained (Some files) limits r.words b.known b.fault
    why b = framed_cause limits files others r.words carries b.known b.fault (subst (λ (w : List (List ℕ)). IsExplained (Some others) limits w b.known b.fault) (sym words) b.why)

    ends : Answers limits files r ⊎ Refuses limits files r → Answers limits others s ⊎ Refuses limits others s → IsOneEnd r s
    ends (inl a) (inl b) =
        let one = one_answer by limits files others r s a.text b.text words carries a.answers b.answers in
        record {
          fault = a.none ∙ sym b.none;
          status = run.status ∙ ap status_of (a.none ∙ sym b.none) ∙ sym also.status;
          findings = one.found;
          out = (a.text, a.out, subst (λ (t : List ℕ). Appends s.before.out.written s.after.out.written t) (sym one.text_is) b.out);
          err = ([], keeps_none r.before.err.written r.after.err.written a.err, keeps_none s.before.err.written s.after.err.written b.err);
        }
    ends (inl a) (inr b) = absurd (answered_or_refused limits files r.words (findings_of r.report) a.text b.known b.fault b.calm a.answers (why b))
    ends (inr a) (inl b) =
        let own = subst (λ (w : List (List ℕ)). AnswersWords (Some others) limits w (findings_of s.report) b.text) (sym words) b.answers in
        absurd (answered_or_refused limits files r.words (findings_of s.report) b.text a.known a.fault a.calm (framed_answer limits files others r.words carries (findings_of s.report) b.text own) a.why)
    ends (inr a) (inr b) =
        let one = one_cause limits files r.words a.known b.known a.fault b.fault a.calm b.calm a.why (why b) in
        let same : r.report.fault ≡ s.report.fault = a.some ∙ ap (λ (f : Fault). Some f) one.same ∙ sym b.some in
        record {
          fault = same;
          status = run.status ∙ ap status_of same ∙ sym also.status;
          findings = a.findings ∙ sym b.findings;
          out = ([], keeps_none r.before.out.written r.after.out.written a.out, keeps_none s.before.out.written s.after.out.written b.out);
          err = (line_of a.known a.fault, a.err, subst (λ (t : List ℕ). Appends s.before.err.written s.after.err.written t) (sym one.line) b.err);
        }

pub one_end : HasOneProblem → (limits : Limits) (r s : RunModel) → IsRunWithin limits r → IsRunWithin limits s → EndAlike r s
one_end by limits r s = ends_over by limits (AgreeOn r.words) r s (λ files others. carried_bytes limits files others r.words)

pub forms_end : HasOneProblem → (limits : Limits) (r s : RunModel) → IsRunWithin limits r → IsRunWithin limits s → FormsEndAlike limits r s
forms_end by limits r s = ends_over by limits (ReadAlikeOn limits r.words) r s (λ files others. carried_records limits files others r.words)
