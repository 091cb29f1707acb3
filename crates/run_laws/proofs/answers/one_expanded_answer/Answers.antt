use Rattle.run_laws.proofs.Texts.{one_expanded_answer}
use Rattle.run_laws.proofs.answers.one_expanded_answer.Goals as goal

pub returns : goal.returns
returns c = one_expanded_answer
