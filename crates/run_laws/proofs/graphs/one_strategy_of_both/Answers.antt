use Rattle.run_laws.proofs.Plans.{one_strategy}
use Rattle.run_laws.proofs.graphs.one_strategy_of_both.Goals as goal

pub returns : goal.returns
returns c = one_strategy
