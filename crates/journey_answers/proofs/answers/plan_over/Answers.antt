use Rattle.journey_answers.proofs.{Common.{AnswersPlan, findings_of}, Sought.in_query}
use Rattle.journey_answers.proofs.answers.plan_over.Goals as goal

pub returns-clause-answer : goal.returns-clause-answer
returns-clause-answer c =
    let a = c.in_ok-answer.answer in
    in_query (λ p. AnswersPlan p (findings_of a.report) a.text.items) c.in_ok-asked.ensures.problem c.in_ok-asked.ensures.asked c.in_ok-answer.ensures
