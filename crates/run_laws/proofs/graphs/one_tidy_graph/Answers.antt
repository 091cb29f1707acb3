use Rattle.run_laws.proofs.PlaceTables.{one_tidy}
use Rattle.run_laws.proofs.graphs.one_tidy_graph.Goals as goal

pub returns : goal.returns
returns c = one_tidy
