use Rattle.journey_problem.proofs.OneProblem.{one_timetable}
use Rattle.journey_problem.proofs.laws.journeys_to_a_stop_have_one_timetable.Goals as goal

pub returns : goal.returns
returns c = one_timetable
