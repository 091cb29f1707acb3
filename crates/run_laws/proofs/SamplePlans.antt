-- `sample` ends as `plan` does over the made files.
use Rattle.run_laws.proofs.Common.{◌≡◌, ◌⊎◌, ℕ, refl, sym, ap, ap₂, subst, ◌∙◌, inl, inr, List, [], Option, Some, Ok, Appends, FileMap, file_at, Limits, PlanGraph, Interval, Ask, Sample, count}
use Rattle.run_laws.proofs.Common.{Plan, arith, job_of, JobModel, Fault, Problem, status_of, NamedParts, HasOneProblem, AgreeFor, own_problem, none_unread, Findings, findings_of, FailsJourney}
use Rattle.run_laws.proofs.{Common.{AnswersJob, FailsJob, AnswersWords, IsExplained, AnswersPlan, InQuery, sample_journey, sample_alpha, RunModel, IsRunWithin, agree_sym}, Agreeing.one_some}
use Rattle.run_laws.proofs.{Ends.{Answers, Refuses, IsCalm, settled, one_journey_fault, journey_answered, job_answered, keeps_none, one_job, refused_or_not}, Framed.{by_bytes, journey_fails}}
use Rattle.run_laws.proofs.{Plans.one_planned, Queries.in_one_query}
use Rattle.run_laws.specs.SamplePlans.{IsPrintedPlan, SampleIsPlan}
use Rattle.std.proofs.Common.{IfSome}
use Rattle.feed_maker.specs.MadeTables.{made, SameFolder}
use Rattle.journey_model.specs.FaultLines.{line_of}
use Rattle.journey_problem.specs.{Files.path_of, Paths.no_path}
use Rattle.journey_report.specs.{AnswerTexts.{leg_count, sample_text}, Findings.sample_findings}

-- files that have the made ones agree with others that have them
agree_some : (path : Option (List ℕ)) (folder files others : FileMap) → SameFolder files folder → IfSome path (λ at. file_at files at ≡ file_at others at)
    → IfSome path (λ at. file_at folder at ≡ file_at others at)
agree_some path folder files others same agree = grind arith

agree_made : (folder files others : FileMap) → SameFolder files folder → AgreeFor sample_journey files others → AgreeFor sample_journey folder others
agree_made folder files others same agree input = agree_some (path_of sample_journey no_path input) folder files others same (agree input)

-- what was found, with another number of connections
abbrev with_connections : Findings → Option ℕ → Findings
with_connections found connections = record found { connections = connections }

-- the answer and the cause of the job that the words ask for
of_job : (limits : Limits) (files : FileMap) (words : List (List ℕ)) (job : JobModel) (found : Findings) (text : List ℕ) → job_of words ≡ Ok job → AnswersWords (Some files) limits words found text
    → AnswersJob (Some files) limits job found text
of_job limits files words job found text asks (wanted, is, answers) = grind (arith, one_job)

cause_of_job : (limits : Limits) (files : FileMap) (words : List (List ℕ)) (job : JobModel) (known : Option NamedParts) (fault : Fault) → job_of words ≡ Ok job → IsCalm fault
    → IsExplained (Some files) limits words known fault → FailsJob (Some files) limits job known fault
cause_of_job limits files words job known fault asks calm h1 = grind (arith, refused_or_not, one_job)

module _ (one_problem : HasOneProblem) (limits : Limits) (files others : FileMap) (size : ℕ) (agree : AgreeFor sample_journey (made size) others) where
  -- the same question, by words
  abbrev plans : JobModel
  plans = Ask sample_journey (Plan sample_alpha)

  -- the row is of these
  abbrev IsRow : (found planned : Findings) (text : List ℕ) → Type 0
  IsRow found planned text =
      (graph : PlanGraph) (bounds : Interval) (connections : ℕ) → planned.graph ≡ Some graph → planned.bounds ≡ Some bounds → found.connections ≡ Some connections
      → text ≡ sample_text size connections (leg_count graph) bounds

  one_answer : (found planned : Findings) (text other : List ℕ) → AnswersJob (Some files) limits (Sample size) found text → AnswersJob (Some others) limits plans planned other
      → (found ≡ with_connections planned found.connections) × IsRow found planned text
  one_answer found planned text other (folder, same, (p, has, is, (q, w, asked, (graph, bounds, found_is, best, text_is)))) (p', has', is', answers) =
      let here = own_problem limits folder others sample_journey p (agree_made folder (made size) others same agree) is in
      let (t, u, also, reported) =
      subst (λ (x : Problem). InQuery x sample_journey.start sample_alpha (AnswersPlan x planned other)) (one_problem limits others sample_journey p' p is' here) answers in
      let (table, span, planned_is, best_too, printed, reads) = in_one_query p sample_journey.start sample_alpha (AnswersPlan p planned other) q t w u asked also reported in
      let one = one_planned p.timetable.network q graph table bounds span best best_too in
      let number = ap (λ (f : Findings). f.connections) found_is in
      let same_found = found_is ∙ ap₂ (λ (g : PlanGraph) (b : Interval). sample_findings q w g b (count p.timetable.network)) one.0 one.1 in grind (arith, one_some)

  -- what a plan over the made files lacks, it lacks over the others
  over_others : (folder : FileMap) → SameFolder (made size) folder → (known : Option NamedParts) (fault : Fault) → FailsJourney (Some folder) limits sample_journey (Plan sample_alpha) known fault
      → FailsJourney (Some others) limits sample_journey (Plan sample_alpha) known fault
  over_others folder same known fault =
      journey_fails limits others folder sample_journey (Plan sample_alpha) known fault (by_bytes limits others folder plans (agree_made folder (made size) others same agree))

  -- and back
  over_made : (known : Option NamedParts) (fault : Fault) → IsCalm fault → FailsJourney (Some others) limits sample_journey (Plan sample_alpha) known fault
      → FailsJob (Some files) limits (Sample size) known fault
  over_made known fault calm fails =
      let back = agree_sym (path_of sample_journey no_path) (made size) others agree in (
        none_unread fault calm.read,
        (
          made size,
          (λ path. refl),
          journey_fails limits (made size) others sample_journey (Plan sample_alpha) known fault (by_bytes limits (made size) others plans back) fails,
        ),
      )

  module _ (r s : RunModel) (run : IsRunWithin limits r) (also : IsRunWithin limits s) (asks : job_of r.words ≡ Ok (Sample size)) (asks_too : job_of s.words ≡ Ok plans) where
    sampled : (a : Answers limits files r) → AnswersJob (Some files) limits (Sample size) (findings_of r.report) a.text
    sampled a = of_job limits files r.words (Sample size) (findings_of r.report) a.text asks a.answers

    planned : (b : Answers limits others s) → AnswersJob (Some others) limits plans (findings_of s.report) b.text
    planned b = of_job limits others s.words plans (findings_of s.report) b.text asks_too b.answers

    no_sample : (a : Refuses limits files r) → FailsJob (Some files) limits (Sample size) a.known a.fault
    no_sample a = cause_of_job limits files r.words (Sample size) a.known a.fault asks a.calm a.why

    no_plan : (b : Refuses limits others s) → FailsJob (Some others) limits plans b.known b.fault
    no_plan b = cause_of_job limits others s.words plans b.known b.fault asks_too b.calm b.why

    sample_fails : (a : Refuses limits files r) → FailsJourney (Some others) limits sample_journey (Plan sample_alpha) a.known a.fault
    sample_fails a = let (read, (folder, same, fails)) = no_sample a in over_others folder same a.known a.fault fails

    ends : Answers limits files r ⊎ Refuses limits files r → Answers limits others s ⊎ Refuses limits others s → IsPrintedPlan size r s
    ends (inl a) (inl b) =
        let one = one_answer (findings_of r.report) (findings_of s.report) a.text b.text (sampled a) (planned b) in
        record {
          fault = a.none ∙ sym b.none;
          status = run.status ∙ ap status_of (a.none ∙ sym b.none) ∙ sym also.status;
          findings = one.0;
          err = ([], keeps_none r.before.err.written r.after.err.written a.err, keeps_none s.before.err.written s.after.err.written b.err);
          text = λ graph bounds connections g h n.
              subst (λ (t : List ℕ). Appends r.before.out.written r.after.out.written t) (one.1 graph bounds connections g h n) a.out;
        }
    ends (inl a) (inr b) = absurd (job_answered limits files (Sample size) (findings_of r.report) a.text b.known b.fault b.calm (sampled a) (over_made b.known b.fault b.calm (no_plan b)))
    ends (inr a) (inl b) = absurd (journey_answered limits others sample_journey (Plan sample_alpha) (findings_of s.report) b.text a.known a.fault a.calm (planned b) (sample_fails a))
    ends (inr a) (inr b) =
        let one = one_journey_fault limits others sample_journey (Plan sample_alpha) a.known b.known a.fault b.fault a.calm b.calm (sample_fails a) (no_plan b) in
        let same : r.report.fault ≡ s.report.fault = a.some ∙ ap (λ (f : Fault). Some f) one.same ∙ sym b.some in
        record {
          fault = same;
          status = run.status ∙ ap status_of same ∙ sym also.status;
          findings = a.findings ∙ ap₂ with_connections (sym b.findings) (sym (ap (λ (f : Findings). f.connections) a.findings));
          err = (line_of a.known a.fault, a.err, subst (λ (t : List ℕ). Appends s.before.err.written s.after.err.written t) (sym one.line) b.err);
          text = λ graph bounds connections g h n. absurd (let none = ap (λ (f : Findings). f.graph) b.findings in cc);
        }

pub sample_is_plan : HasOneProblem → (limits : Limits) (r s : RunModel) → IsRunWithin limits r → IsRunWithin limits s → SampleIsPlan r s
sample_is_plan one_problem limits r s run also files others size calm other_calm asks asks_too agree memory other_memory =
    ends one_problem limits files others size agree r s run also asks asks_too (settled limits files r run calm memory r.report.fault refl) (settled limits others s also other_calm other_memory s.report.fault refl)
