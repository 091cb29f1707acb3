use Rattle.cut_file.proofs.{Common.{bytes_eq-Decides, arith}, NumberFacts.{add_new-from_adds, add_new_there}}
use Rattle.std.proofs.lemmas.Result.{on_ok_weaker}
use Rattle.cut_file.proofs.numbers.number_of.Goals as goal

pub returns-then-eq-clause-names : goal.returns-then-eq-clause-names
returns-then-eq-clause-names c = grind (arith, bytes_eq-Decides, add_new_there)

pub returns-clause-names : goal.returns-clause-names
returns-clause-names c = grind (arith, on_ok_weaker, add_new-from_adds)
