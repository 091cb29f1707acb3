use Rattle.lower_proof.proofs.Common.{arith}
use Rattle.lower_proof.proofs.reader.read_text.Goals as goal

-- what is read by the index is read by the names
pub returns-in_err-values : goal.returns-in_err-values
returns-in_err-values c = grind arith
