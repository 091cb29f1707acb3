use Rattle.run_laws.proofs.Certified.{printed_certificate}
use Rattle.run_laws.proofs.commands.a_printed_certificate_is_accepted.Goals as goal

pub returns : goal.returns
returns c = printed_certificate
