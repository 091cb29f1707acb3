-- The answers of two runs are one.
use Rattle.run_laws.proofs.Common.{arith, ◌≡◌, ℕ, List, None, Some, sym, subst, ◌∙◌, Appends, FileMap, Limits, Moment, Query, JobModel, Ask, Sample, AskModel, Safe, Expand, Plan, Certify}
use Rattle.run_laws.proofs.Common.{CheckProof, CheckGraph, Punctual, Departures, Latest, Reach, Problem, HasOneProblem, agree_all, own_problem, Findings, findings_of, query_until, AnswersAsk}
use Rattle.run_laws.proofs.Common.{AnswersJob, AnswersWords, HasAnswer, sample_journey, sample_alpha, AnswersSampled, IsSampled, WritesLine, IsOneAnswer, RunModel, IsRunWithin, HasOneRun}
use Rattle.run_laws.proofs.{Framed.{CarriesWords, carried_bytes, framed_answer}, Plans.one_planned, Queries.in_one_query, Certificates.{one_certificate_answer, one_check_answer}}
use Rattle.run_laws.proofs.{Departures.one_departures_answer, Reaches.one_reach_answer, Texts.{one_safe_answer, one_plan_answer, one_expanded_answer}, Punctuals.one_punctual_answer}
use Rattle.run_laws.proofs.Files.{one_trip_answer, one_score_answer, one_latest_answer}
use Rattle.command_line.specs.Jobs.{Replay}
use Rattle.meat_engine.specs.Received.{Outcome}

module _ (found others : Findings) (text other : List ℕ) where
  abbrev One : Type 0
  One = IsOneAnswer found others text other

  one_ask : (files : FileMap) (limits : Limits) (start : ℕ) (p : Problem) → (a : AskModel) → AnswersAsk (Some files) limits start p a found text
      → AnswersAsk (Some files) limits start p a others other → One
  one_ask files limits start p (Safe alpha) = one_safe_answer p found others text other start alpha
  one_ask files limits start p (Expand alpha) = one_expanded_answer p found others text other start alpha
  one_ask files limits start p (Plan alpha) = one_plan_answer p found others text other start alpha
  one_ask files limits start p (Replay graph late) = one_trip_answer p found others text other files limits start graph late
  one_ask files limits start p (Certify alpha) = one_certificate_answer p found others text other start alpha
  one_ask files limits start p (CheckProof proof) = one_check_answer p found others text other files limits start proof
  one_ask files limits start p (CheckGraph graph) = one_score_answer p found others text other files limits start graph
  one_ask files limits start p (Punctual alpha promise) = one_punctual_answer p found others text other promise start alpha
  one_ask files limits start p (Departures until last) = one_departures_answer p (query_until p start until) last found others text other
  one_ask files limits start p (Latest until) = one_latest_answer p found others text other (query_until p start until)
  one_ask files limits start p (Reach until) = one_reach_answer p (query_until p start until) found others text other

  one_sample_reported : (size : ℕ) (p : Problem) (q : Query) (w : Moment) → AnswersSampled size p found text q w → AnswersSampled size p others other q w → One
  one_sample_reported size p q w (graph, bounds, is, plan, text_is) (graphs, spans, is_other, plan_other, text_other) = grind (arith, one_planned)

  one_sample : (size : ℕ) (p : Problem) → IsSampled size p found text → IsSampled size p others other → One
  one_sample size p (q, w, is, reports) (r, v, also, reported) =
      one_sample_reported size p q w reports (in_one_query p sample_journey.start sample_alpha (AnswersSampled size p others other) q r w v is also reported)

  module _ (one_problem : HasOneProblem) where
    one_job : (files : FileMap) (limits : Limits) (job : JobModel) → AnswersJob (Some files) limits job found text → AnswersJob (Some files) limits job others other → One
    one_job files limits (Ask j a) (p, has, is, answers) (q, has_other, also, reported) = grind (arith, one_ask)
    one_job files limits (Sample size) (folder, same, (p, has, is, answers)) (other_folder, same_other, (q, has_other, also, reported)) =
        let here = own_problem limits other_folder folder sample_journey q (agree_all _ other_folder folder (λ path. same_other path ∙ sym (same path))) also in
        one_sample size p answers (subst (λ (r : Problem). IsSampled size r others other) (one_problem limits folder sample_journey q p here is) reported)

    pub one_words : (files : FileMap) (limits : Limits) (words : List (List ℕ)) → AnswersWords (Some files) limits words found text → AnswersWords (Some files) limits words others other → One
    one_words files limits words (wanted, is, answers) (wants, also, reported) = grind (arith, one_job)

-- what a run comes to, by what the files hold
pub outcome_of : (limits : Limits) (files : FileMap) (r : RunModel) → IsRunWithin limits r → r.before.files.files ≡ Some files
    → Outcome (Some files) limits r.words r.report r.before.out.written r.after.out.written (WritesLine r.before.err r.after.err) r.report.fault
outcome_of limits files r run reports = grind arith

-- the answer of a run that ends without a fault
pub answer_of : (limits : Limits) (files : FileMap) (r : RunModel) → IsRunWithin limits r → r.before.files.files ≡ Some files → r.report.fault ≡ None
    → HasAnswer (Some files) limits r.words r.report (Appends r.before.out.written r.after.out.written)
answer_of limits files r run reports none = (outcome_of limits files r run reports).whole none

-- the answers to the same words over files that agree at their paths are one
pub one_answer : HasOneProblem → (limits : Limits) (files others : FileMap) (r s : RunModel) (text other : List ℕ) → r.words ≡ s.words → CarriesWords limits files others r.words
    → AnswersWords (Some files) limits r.words (findings_of r.report) text → AnswersWords (Some others) limits s.words (findings_of s.report) other
    → IsOneAnswer (findings_of r.report) (findings_of s.report) text other
one_answer by limits files others r s text other words carries answers reported =
    grind (arith, one_words (findings_of r.report) (findings_of s.report) text other by files limits r.words answers, framed_answer limits files others r.words carries (findings_of s.report) other)

pub one_run : HasOneProblem → HasOneRun
one_run by limits files others r s run again ends well words agree =
    let (text, answers, written) = answer_of limits files r run ends.reports ends.no_fault in
    let (other, reported, writes) = answer_of limits others s again well.reports well.no_fault in
    let one = one_answer by limits files others r s text other words (carried_bytes limits files others r.words agree) answers reported in
    (one.found, (text, written, subst (λ (t : List ℕ). Appends s.before.out.written s.after.out.written t) (sym one.text_is) writes))
