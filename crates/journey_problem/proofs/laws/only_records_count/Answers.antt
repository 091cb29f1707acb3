use Rattle.journey_problem.proofs.{Common.arith, SameFiles.{alike_sym, problem_of_records, fault_of_records}}
use Rattle.journey_problem.specs.{Files.path_of, Paths.no_path}
use Rattle.journey_problem.proofs.laws.only_records_count.Goals as goal

pub returns : goal.returns
returns c = record {
  problem = λ limits files others j p same. grind (arith, problem_of_records, alike_sym);
  fault = λ limits files others j fault same.
      (fault_of_records limits files others j fault same, fault_of_records limits others files j fault (alike_sym limits.bytes (path_of j no_path) files others same));
}
