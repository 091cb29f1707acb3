use Rattle.run_laws.proofs.RideTables.{one_reported}
use Rattle.run_laws.proofs.graphs.one_whole_graph.Goals as goal

pub returns : goal.returns
returns c = one_reported
