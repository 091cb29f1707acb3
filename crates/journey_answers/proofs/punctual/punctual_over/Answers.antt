use Rattle.journey_answers.proofs.{Common.{MatchOption-at_some, findings_of, arith}, Sought.{in_query, none_is_safe, match_none}}
use Rattle.journey_answers.specs.Punctual.{AnswersPunctual}
use Rattle.journey_answers.proofs.punctual.punctual_over.Goals as goal

pub unreachable-requires : goal.unreachable-requires
unreachable-requires c = grind (arith, none_is_safe, match_none)

pub returns-clause-answer : goal.returns-clause-answer
returns-clause-answer c =
    let found = c.in-Some.found in
    let both = MatchOption-at_some _ _ _ c.in-Some.is c.in_ok-found.ensures in
    let a = c.in_ok-answer in
    in_query (λ p. AnswersPunctual p c.args.promise.0 (findings_of a.answer.report) a.answer.text.items) c.in_ok-asked.ensures.problem c.in_ok-asked.ensures.asked
    (found.graph, found.value, c.in_ok-bounds.bounds, a.ensures.found, both.0, both.1, c.in_ok-bounds.ensures, a.ensures.text)
