use Rattle.journey_answers.proofs.{Common.{arith, subst, unfold_plan, IsScoreOf}, Unsafe.unsafe_has_site}
use Rattle.journey_answers.proofs.scores.score_over.Goals as goal

pub returns-in-Failing-clause-has_site : goal.returns-in-Failing-clause-has_site
returns-in-Failing-clause-has_site c =
    let p = c.args.read.problem.now in
    let head = c.args.read.head in
    unsafe_has_site p head.query c.args.read.graph c.args.read.fit (omega (arith, c.args.read.source, p.source_in)) (omega (arith, c.args.read.target, p.target_in))
    c.args.read.start c.in-Failing.failure.place.0 c.in-Failing.failure.moment.0
    (subst (IsScoreOf p.timetable.network head.query (unfold_plan c.args.read.graph p.timetable.network head.query)) c.in-Failing.is c.in_ok-bounds.ensures)
