use Rattle.journey_problem.proofs.{Common.arith, SameFiles.{agree_sym, own_problem, own_fault}}
use Rattle.journey_problem.proofs.laws.only_own_files_count.Goals as goal

pub returns : goal.returns
returns c = grind (arith, own_problem, agree_sym, own_fault)
