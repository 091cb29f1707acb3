use Rattle.plan_model.proofs.Views.{alike}
use Rattle.plan_model.proofs.view.safe_in_view.Goals as goal

pub returns : goal.returns
returns c = alike
