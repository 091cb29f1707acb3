use Rattle.run_laws.proofs.RowBounds.{row_upper}
use Rattle.run_laws.proofs.commands.a_row_has_the_bound_of_a_plan.Goals as goal

pub returns : goal.returns
returns c = row_upper
