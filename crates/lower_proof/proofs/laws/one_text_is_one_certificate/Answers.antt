use Rattle.lower_proof.proofs.ReadOnce.{read_once}
use Rattle.lower_proof.proofs.laws.one_text_is_one_certificate.Goals as goal

pub returns : goal.returns
returns c = read_once
