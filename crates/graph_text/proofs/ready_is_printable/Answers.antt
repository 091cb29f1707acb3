use Rattle.graph_text.proofs.Laws.{ready_printable}
use Rattle.graph_text.proofs.ready_is_printable.Goals as goal

pub returns : goal.returns
returns c n q graph valid is = ready_printable n valid q graph is
