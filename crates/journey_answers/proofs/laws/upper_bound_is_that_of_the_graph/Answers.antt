use Rattle.journey_answers.proofs.Bounds.{bounds_of_graph}
use Rattle.journey_answers.proofs.laws.upper_bound_is_that_of_the_graph.Goals as goal

pub returns : goal.returns
returns c = bounds_of_graph
