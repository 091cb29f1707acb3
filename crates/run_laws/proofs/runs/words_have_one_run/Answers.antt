use Rattle.run_laws.proofs.Asks.{one_run}
use Rattle.run_laws.proofs.runs.words_have_one_run.Goals as goal

pub returns : goal.returns
returns c = one_run c.files_have_one_problem.ensures
