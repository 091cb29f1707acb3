use Rattle.run_laws.proofs.OneOrder.{one_order}
use Rattle.run_laws.proofs.graphs.one_scan_order.Goals as goal

pub returns : goal.returns
returns c = one_order
