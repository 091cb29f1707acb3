use Rattle.plan_model.specs.Order.{IsScanOrder}
use Rattle.safe_arrival.proofs.reserved_worst.Given as goal

abbrev pub invariant-loop-hours : goal.invariant-loop-hours
invariant-loop-hours g l = record {
  fits : g.B.BackwardOrder.fits l.order l.network;
  whole : IsScanOrder l.network (g.B.BackwardOrder.rest l.order l.network);
}
