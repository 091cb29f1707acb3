-- A problem, a start and a percentage have one answer.
use Rattle.run_laws.proofs.Common.{arith, ℕ, List, sym, ap₂, ◌∙◌, Interval, Moment, Query, PlanGraph, plan_text, Problem, Findings, plan_findings, InQuery, AnswersSafe, AnswersExpand}
use Rattle.run_laws.proofs.{Common.{AnswersPlan, head_of, IsOneAnswer}, Plans.{one_planned, one_expanded}, Queries.in_one_query}

module _ (p : Problem) (found others : Findings) (text other : List ℕ) where
  abbrev One : Type 0
  One = IsOneAnswer found others text other

  one_worst_reported : (q : Query) (w : Moment) → AnswersSafe p found text q w → AnswersSafe p others other q w → One
  one_worst_reported q w reports reported = record { found = reports.0 ∙ sym reported.0; text_is = reports.1 ∙ sym reported.1 }

  one_plan_reported : (q : Query) (w : Moment) → AnswersPlan p found text q w → AnswersPlan p others other q w → One
  one_plan_reported q w (graph, bounds, is, plan, text_is, reads) (graphs, spans, is_other, plan_other, text_other, reads_other) =
      let both = one_planned p.timetable.network q graph graphs bounds spans plan plan_other in
      record {
        found = is ∙ ap₂ (plan_findings q w) both.0 both.1 ∙ sym is_other;
        text_is = text_is ∙ ap₂ (λ (b : Interval) (g : PlanGraph). plan_text p.timetable.network p.timetable.names (head_of q b) g) both.1 both.0 ∙ sym text_other;
      }

  one_expanded_reported : (q : Query) (w : Moment) → AnswersExpand p found text q w → AnswersExpand p others other q w → One
  one_expanded_reported q w (graph, bounds, is, plan, text_is) (graphs, spans, is_other, plan_other, text_other) = grind (arith, one_expanded)

  module _ (start alpha : ℕ) where
    pub one_safe_answer : InQuery p start alpha (AnswersSafe p found text) → InQuery p start alpha (AnswersSafe p others other) → One
    one_safe_answer (q, w, is, reports) (r, v, also, reported) = one_worst_reported q w reports (in_one_query p start alpha (AnswersSafe p others other) q r w v is also reported)

    pub one_plan_answer : InQuery p start alpha (AnswersPlan p found text) → InQuery p start alpha (AnswersPlan p others other) → One
    one_plan_answer (q, w, is, reports) (r, v, also, reported) = one_plan_reported q w reports (in_one_query p start alpha (AnswersPlan p others other) q r w v is also reported)

    pub one_expanded_answer : InQuery p start alpha (AnswersExpand p found text) → InQuery p start alpha (AnswersExpand p others other) → One
    one_expanded_answer (q, w, is, reports) (r, v, also, reported) = one_expanded_reported q w reports (in_one_query p start alpha (AnswersExpand p others other) q r w v is also reported)
