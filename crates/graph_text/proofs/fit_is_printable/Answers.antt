use Rattle.graph_text.proofs.Laws.{fit_printable}
use Rattle.graph_text.proofs.fit_is_printable.Goals as goal

pub returns : goal.returns
returns c n q graph valid is = fit_printable n valid q graph is
