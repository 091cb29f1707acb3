use Rattle.journey_problem.proofs.{Common.{arith, slice_get_within, if_raised}, CutSteps.of_parts}
use Rattle.journey_problem.proofs.cut_problem.problem_in.Goals as goal

pub between-requires-clause-source : goal.between-requires-clause-source
between-requires-clause-source c = grind (arith, slice_get_within)

pub between-requires-clause-target : goal.between-requires-clause-target
between-requires-clause-target c = grind (arith, slice_get_within)

pub returns-clause-network : goal.returns-clause-network
returns-clause-network c = grind (arith, of_parts)

pub returns-clause-none : goal.returns-clause-none
returns-clause-none c = grind arith

pub returns-in_err-ends-clause-fault : goal.returns-in_err-ends-clause-fault
returns-in_err-ends-clause-fault c = grind (arith, if_raised)
