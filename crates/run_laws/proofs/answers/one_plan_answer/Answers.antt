use Rattle.run_laws.proofs.Texts.{one_plan_answer}
use Rattle.run_laws.proofs.answers.one_plan_answer.Goals as goal

pub returns : goal.returns
returns c = one_plan_answer
