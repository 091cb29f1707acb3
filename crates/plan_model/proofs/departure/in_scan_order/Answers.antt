use Rattle.plan_model.proofs.Sorted.{in_order}
use Rattle.plan_model.proofs.departure.in_scan_order.Goals as goal

pub returns-clause-rising : goal.returns-clause-rising
returns-clause-rising c = in_order c.sort_unstable.new.self.items c.sort_unstable.ensures.sorted
