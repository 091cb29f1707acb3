use Rattle.run_laws.proofs.Texts.{one_safe_answer}
use Rattle.run_laws.proofs.answers.one_safe_answer.Goals as goal

pub returns : goal.returns
returns c = one_safe_answer
