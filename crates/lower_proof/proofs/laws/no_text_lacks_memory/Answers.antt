use Rattle.lower_proof.proofs.{Common.table_of, ReadOnce.never_memory}
use Rattle.lower_proof.proofs.laws.no_text_lacks_memory.Goals as goal

pub returns : goal.returns
returns c = λ n names source target start text. never_memory n names source target start (table_of text)
