use Rattle.departure_table.proofs.Latest.{agrees}
use Rattle.departure_table.proofs.laws.greatest_moment_agrees_with_the_least_worst.Goals as goal

pub returns : goal.returns
returns c = agrees
