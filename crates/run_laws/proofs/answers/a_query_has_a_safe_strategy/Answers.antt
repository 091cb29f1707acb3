use Rattle.run_laws.proofs.Queries.{not_none}
use Rattle.run_laws.proofs.answers.a_query_has_a_safe_strategy.Goals as goal

pub returns : goal.returns
returns c = not_none
