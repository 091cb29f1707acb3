use Rattle.meat_engine.proofs.Common.{arith}
use Rattle.journey_answers.proofs.Sought.{in_query}
use Rattle.meat_engine.proofs.samples.sample_in.Goals as goal

pub returns-clause-sampled : goal.returns-clause-sampled
returns-clause-sampled c = grind (arith, in_query)
