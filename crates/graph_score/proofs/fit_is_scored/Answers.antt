use Rattle.graph_score.proofs.{Common.legs_of, GraphLegs.{fit_legs, none_wrong}}
use Rattle.graph_score.proofs.fit_is_scored.Goals as goal

pub returns-clause-legs : goal.returns-clause-legs
returns-clause-legs c n q graph fit = fit_legs n q graph fit

pub returns-clause-none_wrong : goal.returns-clause-none_wrong
returns-clause-none_wrong c n q graph k fit wrong = none_wrong n q (legs_of graph) k (fit_legs n q graph fit) wrong
