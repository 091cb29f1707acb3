use Rattle.plan_model.proofs.{Common.◌-◌, Skips.IsHalved}
use Rattle.plan_model.proofs.order.SortedOrderBackwardOrder.skip_after.Given as goal

abbrev pub invariant-loop-low : goal.invariant-loop-low
invariant-loop-low l = IsHalved l.network l.self.ids.items l.last.0 l.self.remaining l.low l.high

abbrev pub decreases-loop-low : goal.decreases-loop-low
decreases-loop-low l = l.high - l.low
