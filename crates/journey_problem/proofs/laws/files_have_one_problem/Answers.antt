use Rattle.journey_problem.proofs.OneProblem.{one_problem}
use Rattle.journey_problem.proofs.laws.files_have_one_problem.Goals as goal

pub returns : goal.returns
returns c = one_problem
