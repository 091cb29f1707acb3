use Rattle.graph_text.proofs.Accepted.{text_reported}
use Rattle.graph_text.proofs.read_fits.Goals as goal

pub returns : goal.returns
returns c n names text source target start head graph is = let reported = text_reported n names source target start text head graph is in (reported.0.fit, reported.1)
