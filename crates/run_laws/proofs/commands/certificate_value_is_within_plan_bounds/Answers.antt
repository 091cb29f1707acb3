use Rattle.run_laws.proofs.Certified.{value_within}
use Rattle.run_laws.proofs.commands.certificate_value_is_within_plan_bounds.Goals as goal

pub returns : goal.returns
returns c = value_within
