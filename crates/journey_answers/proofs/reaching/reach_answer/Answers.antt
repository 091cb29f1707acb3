use Rattle.journey_answers.proofs.{Common.{sym, subst, All}, SameReach.printable}
use Rattle.journey_report.specs.DepartureTexts.{IsPrintable}
use Rattle.journey_answers.proofs.reaching.reach_answer.Goals as goal

pub reach_text-requires : goal.reach_text-requires
reach_text-requires c =
    let t = c.args.asked.now.problem.now.timetable in
    subst (All (IsPrintable t.names)) (sym c.as_slice.ensures) (printable t.network t.names t.valid t.fit c.args.asked.now.query c.in_ok-rows.rows c.in_ok-rows.ensures.reach)
