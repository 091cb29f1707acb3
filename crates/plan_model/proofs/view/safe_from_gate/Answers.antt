use Rattle.plan_model.proofs.{Common.arith, GateTrees.{gate_there, gate_back}}
use Rattle.plan_model.proofs.view.safe_from_gate.Goals as goal

pub returns : goal.returns
returns c = λ n m gate source g valid target by tree x inside away. grind (arith, gate_there, gate_back)
