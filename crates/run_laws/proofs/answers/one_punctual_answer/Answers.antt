use Rattle.run_laws.proofs.Punctuals.{one_punctual_answer}
use Rattle.run_laws.proofs.answers.one_punctual_answer.Goals as goal

pub returns : goal.returns
returns c = one_punctual_answer
