use Rattle.service_laws.proofs.Upper.{plan_no_worse}
use Rattle.service_laws.proofs.plans.a_plan_with_more_service_is_no_worse.Goals as goal

pub returns : goal.returns
returns c = plan_no_worse
