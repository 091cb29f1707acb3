use Rattle.run_laws.proofs.Ends.{one_end}
use Rattle.run_laws.proofs.runs.words_have_one_end.Goals as goal

pub returns : goal.returns
returns c = one_end c.files_have_one_problem.ensures
