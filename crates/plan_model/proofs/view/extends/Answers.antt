use Rattle.plan_model.proofs.GateWays.{is_valid, has_gates}
use Rattle.plan_model.proofs.view.extends.Goals as goal

pub returns-clause-valid : goal.returns-clause-valid
returns-clause-valid c = λ m sources fit v. is_valid m v sources fit.there fit.few

pub returns-clause-gates : goal.returns-clause-gates
returns-clause-gates c = λ m sources fit v. has_gates m v sources fit.there fit.few
