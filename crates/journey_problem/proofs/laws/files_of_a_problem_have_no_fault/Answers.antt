use Rattle.journey_problem.proofs.{Common.{ap, Some}, NoFaults.no_fault}
use Rattle.journey_problem.proofs.laws.files_of_a_problem_have_no_fault.Goals as goal

pub returns : goal.returns
returns c = λ limits files j p fault is calm m why. no_fault limits files j p fault is (λ i e. calm.0 i (ap Some e)) m why
